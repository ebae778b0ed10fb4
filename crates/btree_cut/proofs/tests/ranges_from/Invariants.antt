-- The holds are as they were.
use Rattle.pool_rule.specs.Trades.{SameHolds}
use Rattle.btree_cut.proofs.tests.ranges_from.Given as goal

abbrev pub invariant-loop-n : goal.invariant-loop-n
invariant-loop-n g l = SameHolds l.fn.w.holds l.w.holds
