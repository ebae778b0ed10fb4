-- What the loop of `next_from` keeps, or what grows less in its recursion.
use Rattle.std.proofs.Common.{take}
use Rattle.node_forest.specs.Forest.{nodes_of}
use Rattle.count_core.specs.Search.{IsNext}
use Rattle.count_core.specs.Steps.{roots}
use Rattle.count_core.proofs.holders.next_from.Given as goal

abbrev pub invariant-loop-view : goal.invariant-loop-view
invariant-loop-view l = IsNext l.from (nodes_of (roots (take l.view-index l.views))) l.next
