use Rattle.tree_shapes.specs.Shape.{level}
use Rattle.node_edges.specs.Trees.{shape_of}
use Rattle.chunk_reader.proofs.way.Way.+descend.Given as goal

abbrev pub decreases-descend : goal.decreases-descend
decreases-descend l = level (shape_of l.edge.now)
