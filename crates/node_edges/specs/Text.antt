-- The text of a node, and the data edges that it consists of.
use Rattle.std.specs.Prelude.{ℕ, zero, suc, List, [], ◌∷◌, ◌++◌, take, drop}
use Rattle.std.specs.List.{flat_map}
use Rattle.node_forest.specs.declared.kind.Kind.{Kind}
use Rattle.node_forest.specs.declared.kind.Kind.TheVariants.{Flat, External, Part, Sum, Branch}
use Rattle.node_forest.specs.Forest.{Forest, empty, grow, children}
use Rattle.node_forest.specs.Label.{Label, Node, part_start}

-- the text of a node of a kind, from the texts of its edges, joined
abbrev pub text_step : Kind → Label → List ℕ → List ℕ
text_step Flat l below = l.bytes
text_step External l below = l.bytes
text_step Part l below = take l.length (drop (part_start l) below)
text_step Sum l below = below
text_step Branch l below = below

abbrev pub joined_text : Forest Label → List ℕ
joined_text empty = []
joined_text (grow l cs rest) = text_step l.kind l (joined_text cs) ++ joined_text rest

-- A flat's or an external's bytes; of a part the range of the child's text; of a sum the child's text, or nothing; of a
-- branch the edges' texts, joined
unfoldable pub text : Node → List ℕ
text e = text_step e.0.kind e.0 (joined_text e.1)

-- what stands so many levels below a node, from the front
unfoldable pub data_edges_at : ℕ → Node → List Node
data_edges_at zero e = e ∷ []
data_edges_at (suc h) e = flat_map (data_edges_at h) (children e)
