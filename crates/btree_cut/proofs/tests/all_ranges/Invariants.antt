-- The holds are as they were.
use Rattle.pool_rule.specs.Trades.{SameHolds}
use Rattle.btree_cut.proofs.tests.all_ranges.Given as goal

abbrev pub invariant-loop-start : goal.invariant-loop-start
invariant-loop-start g l = SameHolds l.fn.w.holds l.w.holds
