-- What the loop of `new` keeps, or what grows less in its recursion.
use Rattle.std.proofs.Common.{◌≡◌}
use Rattle.count_core.specs.Steps.{nothing_held}
use Rattle.count_core.proofs.world.World.new.Given as goal

abbrev pub invariant-loop : goal.invariant-loop
invariant-loop l = l.views.items ≡ nothing_held l.counter
