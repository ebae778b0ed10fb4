-- What a cord is to which a tree was added that is shared.
use Rattle.std.specs.Prelude.{◌+◌, length, Option, Some, None}
use Rattle.node_forest.specs.declared.side.Side.{Side}
use Rattle.node_forest.specs.Label.{Node}
use Rattle.tree_shapes.specs.Cords.{CordShape, rooted, without_sum}
use Rattle.tree_shapes.specs.Merge.{joined}
use Rattle.tree_shapes.specs.Shape.{Shape}
use Rattle.node_edges.specs.Text.{text}
use Rattle.node_edges.specs.Trees.{shape_of}
use Rattle.cord_value.specs.Views.{CordView, cord_shape}

-- a tree at a side of another, if there is another
abbrev pub joined_to : Side → Option Shape → Shape → Shape
joined_to side None x = x
joined_to side (Some t) x = joined side t x

-- a cord with the tree x at a side
abbrev pub shared_shape : Side → Node → CordView → CordShape
shared_shape side x c = record {
  size = length c.bytes + length (text x);
  tree = Some (joined_to side (rooted (length c.bytes) (without_sum (cord_shape c).tree)) (shape_of x));
}
