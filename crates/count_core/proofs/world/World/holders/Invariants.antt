-- What the loop of `holders` keeps, or what grows less in its recursion.
use Rattle.std.proofs.Common.{◌≡◌, ◌+◌, ◌-◌, ◌^◌, ◌≤◌, min}
use Rattle.node_forest.specs.Counts.{times}
use Rattle.count_core.specs.SoundBelow.{sum_below, edge}
use Rattle.count_core.specs.Steps.{roots}
use Rattle.count_core.proofs.world.World.holders.Given as goal

abbrev pub invariant-numbers : goal.invariant-numbers
invariant-numbers l = (l.count ≡ min (times l.number (roots l.self.views.items) + sum_below l.from (edge (roots l.self.views.items) l.number)) (2 ^ 64 - 1)) × (l.from ≤ 2 ^ 32)

abbrev pub decreases-numbers : goal.decreases-numbers
decreases-numbers l = 2 ^ 32 - l.from
