-- The holds are the same after each round.
use Rattle.pool_rule.specs.Trades.{SameHolds}
use Rattle.pool_tests.proofs.calls.rounds.Given as goal

abbrev pub invariant-loop : goal.invariant-loop
invariant-loop g l = SameHolds l.initial.w.holds l.w.holds
