-- What contracts see of a tree: a node whose label has no bytes and nothing of its kind.
use Rattle.std.specs.Prelude.{◌+◌, ◌≤◌, List, [], ◌∷◌}
use Rattle.std.proofs.Common.{arith}
use denote.Param.Weighed.{most}
use Rattle.node_forest.specs.Forest.{forest, node_count}
use Rattle.node_forest.specs.Label.{Node}
use Rattle.count_core.specs.declared.tree.Tree.TheInside.{Inside}

-- a tree of the count rule has no bytes, and its label no more than its number, kind and length
abbrev pub tree_node : Inside → Node
tree_node a = (record { number = a.number; kind = a.kind; length = a.length; bytes = []; more = 0 }, forest a.children.items)

pub most_le-node_count : (ts : List Node) → most (λ (t : Node). node_count t.1 + 1) ts ≤ node_count (forest ts)
most_le-node_count [] = omega arith
most_le-node_count (t ∷ ts) = let r = most_le-node_count ts in omega arith
