-- The worker holds what it held.
use Rattle.pool_rule.specs.Trades.{SameHolds}
use Rattle.cord_query.proofs.tests.with_all_behind.Given as goal

abbrev pub invariant-loop-part : goal.invariant-loop-part
invariant-loop-part g l =
    (goal.iterator-loop-part g).can_next l.part-iterator
    × (goal.iterator-loop-part g).is_finite l.part-iterator
    × SameHolds l.fn.w.holds l.w.holds
