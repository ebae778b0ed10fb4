-- How many nodes a tree has.
use Rattle.std.specs.Prelude.{ℕ, ◌≡◌, ◌+◌}
use Rattle.node_forest.specs.Forest.{node_count}
use Rattle.tree_shapes.specs.Shape.{Shape, IsNode}

abbrev pub nodes_in : Shape → ℕ
nodes_in s = node_count s.1 + 1

-- a data edge that is one node
pub record IsLeaf (x : Shape) : Type 0 where
  pub node : IsNode 0 x
  pub one : nodes_in x ≡ 1
