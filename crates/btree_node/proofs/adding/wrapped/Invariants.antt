-- The node under so many Branches of one edge.
use Rattle.std.proofs.Common.{◌+◌, [], ◌∷◌}
use Rattle.node_edges.specs.Text.{data_edges_at}
use Rattle.node_edges.specs.Trees.{shape_of}
use Rattle.tree_shapes.specs.Growth.{wrapped as wrapped_in}
use Rattle.btree_node.specs.Made.{IsMadeFrom}
use Rattle.btree_node.specs.Adding.{IsTreeOver}
use Rattle.btree_node.proofs.adding.wrapped.Given as goal

abbrev pub invariant-loop-i : goal.invariant-loop-i
invariant-loop-i g l = record {
  tree : IsTreeOver (l.level + l.i) (wrapped_in l.i (shape_of l.node)) (data_edges_at l.level l.node) l.top;
  made : IsMadeFrom [] (l.node ∷ []) l.fn.w l.w l.top;
}
