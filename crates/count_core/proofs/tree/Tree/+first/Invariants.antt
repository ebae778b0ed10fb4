-- What the loop of `first` keeps, or what grows less in its recursion.
use Rattle.std.proofs.Common.{◌≡◌, drop}
use Rattle.node_forest.specs.Forest.{nodes_of}
use Rattle.node_forest.specs.Counts.{first}
use Rattle.count_core.proofs.tree.Tree.+first.Given as goal

abbrev pub invariant-loop-child : goal.invariant-loop-child
invariant-loop-child l = first l.number (nodes_of l.child-items) ≡ first l.number (nodes_of (drop l.child-index l.child-items))
