-- Ways down a tree, and how many Branches lie on them.
use Rattle.std.specs.Prelude.{ℕ, ◌+◌, max}
use Rattle.node_forest.specs.declared.kind.Kind.{Kind}
use Rattle.node_forest.specs.declared.kind.Kind.TheVariants.{Flat, External, Part, Sum, Branch}
use Rattle.node_forest.specs.Forest.{Forest, empty, grow}
use Rattle.node_forest.specs.Label.{Label, Node}

-- a way ends at a flat or an external, and goes on from any other node
abbrev pub way_step : Kind → ℕ → ℕ
way_step Flat n = 0
way_step External n = 0
way_step Part n = n
way_step Sum n = n
way_step Branch n = n + 1

abbrev pub most_branches : Forest Label → ℕ
most_branches empty = 0
most_branches (grow l cs rest) = max (way_step l.kind (most_branches cs)) (most_branches rest)

-- the most Branches on a way down from the node, which counts if it is one
abbrev pub branches_down : Node → ℕ
branches_down e = way_step e.0.kind (most_branches e.1)
