-- The facts of `branches_over_trees_are_trees` that the check leaves to be shown.
use Rattle.node_edges.proofs.TreeLaws.{branch-tree, edges-trees}
use Rattle.node_edges.proofs.laws.branches_over_trees_are_trees.Goals as goal

pub returns : goal.returns
returns c = record { made = branch-tree; opened = edges-trees }
