-- What the loop of `first` keeps, or what grows less in its recursion.
use Rattle.std.proofs.Common.{◌≡◌, drop}
use Rattle.node_forest.specs.Forest.{nodes_of}
use Rattle.node_forest.specs.Counts.{first}
use Rattle.count_core.proofs.view.View.first.Given as goal

abbrev pub invariant-loop-tree : goal.invariant-loop-tree
invariant-loop-tree l = first l.number (nodes_of l.tree-items) ≡ first l.number (nodes_of (drop l.tree-index l.tree-items))
