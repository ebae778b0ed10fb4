-- What the loop of `next_from` keeps, or what grows less in its recursion.
use Rattle.std.proofs.Common.{take}
use Rattle.node_forest.specs.Forest.{nodes_of}
use Rattle.count_core.specs.Search.{IsNext}
use Rattle.count_core.proofs.view.View.next_from.Given as goal

abbrev pub invariant-loop-tree : goal.invariant-loop-tree
invariant-loop-tree l = IsNext l.from (nodes_of (take l.tree-index l.tree-items)) l.next
