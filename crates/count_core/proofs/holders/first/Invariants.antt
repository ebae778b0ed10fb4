-- What the loop of `first` keeps, or what grows less in its recursion.
use Rattle.std.proofs.Common.{◌≡◌, drop}
use Rattle.node_forest.specs.Forest.{nodes_of}
use Rattle.node_forest.specs.Counts.{first}
use Rattle.count_core.specs.Steps.{roots}
use Rattle.count_core.proofs.holders.first.Given as goal

abbrev pub invariant-loop-view : goal.invariant-loop-view
invariant-loop-view l = first l.number (nodes_of (roots l.views)) ≡ first l.number (nodes_of (roots (drop l.view-index l.views)))
