-- Which nodes of a list a range of their bytes touches, and what is cut of data edges.
use Rattle.std.specs.Prelude.{ℕ, ◌≡◌, ◌-◌, min, nat_eq, if◌then◌else◌, List, [], ◌∷◌, ◌++◌}
use Rattle.node_forest.specs.Label.{Node, number}
use Rattle.chunk_reader.specs.Places.{long}
use Rattle.edge_nodes.specs.Pieces.{piece_of}

-- so many bytes of a node, from a start on
pub record Range : Type 0 where
  pub node : Node
  pub start : ℕ
  pub size : ℕ

-- one, where it has a byte
abbrev pub some_of : Node → ℕ → ℕ → List Range
some_of e start n = if nat_eq n 0 then [] else record { node = e; start = start; size = n } ∷ []

-- n bytes of the nodes from a start on, as ranges of those nodes that have any of them
abbrev pub ranges : List Node → ℕ → ℕ → List Range
ranges [] start n = []
ranges (e ∷ es) start n = some_of e start (min n (long e - start)) ++ ranges es (start - long e) (n - (long e - start))

-- each range and the node that was made of it
abbrev pub AreEach : (Range → Node → Type 0) → List Range → List Node → Type 0
AreEach P [] [] = Unit {0}
AreEach P [] (e ∷ es) = ⊥
AreEach P (r ∷ rs) [] = ⊥
AreEach P (r ∷ rs) (e ∷ es) = P r e × AreEach P rs es

-- all of the data edge, with its number; else a Part of it, or where it is a Part itself one of its child, with the child's number
abbrev pub IsPiece : Range → Node → Type 0
IsPiece r e = e ≡ piece_of (number e) r.node r.start r.size

abbrev pub ArePieces : List Range → List Node → Type 0
ArePieces rs es = AreEach IsPiece rs es
