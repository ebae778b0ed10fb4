-- What the tree is that two trees make, and which of their trees it keeps.
use Rattle.std.specs.Prelude.{◌≡◌, List, nat_le, if◌then◌else◌}
use Rattle.node_forest.specs.declared.side.Side.{Side}
use Rattle.node_forest.specs.Label.{Node}
use Rattle.node_edges.specs.Text.{text}
use Rattle.node_edges.specs.Trees.{shape_of, IsFilled}
use Rattle.tree_shapes.specs.Growth.{beside}
use Rattle.tree_shapes.specs.Merge.{across, meeting, joined}
use Rattle.tree_shapes.specs.Shape.{level, IsTree}
use Rattle.btree_node.specs.Adding.{data_edges, kept_added}

-- e is t with x merged at a side: its shape is the rules', it is a tree, and the data edges of both stand in it with their numbers
pub record IsMerged (side : Side) (t x e : Node) : Type 0 where
  pub shape : shape_of e ≡ joined side (shape_of t) (shape_of x)
  pub tree : IsTree (shape_of e)
  pub filled : IsFilled e
  pub data_edges : data_edges e ≡ beside side (data_edges t) (data_edges x)
  pub text : text e ≡ beside side (text t) (text x)

-- the trees that are kept: the lower tree is added to the other
abbrev pub kept_merged : Side → Node → Node → List Node
kept_merged side t x =
    if nat_le (level (shape_of x)) (level (shape_of t))
    then kept_added (meeting side (shape_of x)) side t x
    else kept_added (meeting (across side) (shape_of t)) (across side) x t
