-- The worker holds what it held.
use Rattle.pool_rule.specs.Trades.{SameHolds}
use Rattle.cord_query.proofs.tests.rounds_agree.Given as goal

abbrev pub invariant-loop : goal.invariant-loop
invariant-loop g l = SameHolds l.fn.w.holds l.w.holds
