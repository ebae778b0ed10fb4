-- The holds are the same after each round.
use Rattle.pool_rule.specs.Trades.{SameHolds}
use Rattle.pool_tests.proofs.ranges.from_place.Given as goal

abbrev pub invariant-loop-end : goal.invariant-loop-end
invariant-loop-end g l = SameHolds l.fn.w.holds l.w.holds
