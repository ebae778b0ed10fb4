-- What the loop of `direct_holds` keeps, or what grows less in its recursion.
use Rattle.std.proofs.Common.{◌≡◌, ◌+◌, ◌-◌, ◌^◌, ◌≤◌, min, drop}
use Rattle.node_forest.specs.Counts.{times}
use Rattle.count_core.specs.Steps.{roots}
use Rattle.count_core.proofs.holders.direct_holds.Given as goal

abbrev pub invariant-loop-view : goal.invariant-loop-view
invariant-loop-view l = (min (l.count + times l.number (roots (drop l.view-index l.views))) (2 ^ 64 - 1) ≡ min (times l.number (roots l.views)) (2 ^ 64 - 1)) × (l.count ≤ 2 ^ 64 - 1)
