-- Which nodes are in a list, and which occur in the trees of a list.
use Rattle.std.specs.Prelude.{◌≡◌, ◌⊎◌, List, [], ◌∷◌}
use Rattle.node_forest.specs.Forest.{nodes_of}
use Rattle.node_forest.specs.Label.{Node}

abbrev pub In : Node → List Node → Type 0
In x [] = ⊥
In x (t ∷ ts) = (x ≡ t) ⊎ In x ts

-- the node is a root or lies below one
abbrev pub Occurs : Node → List Node → Type 0
Occurs x roots = In x (nodes_of roots)
