-- So many of the edges are left.
use Rattle.std.proofs.Common.{[], take}
use Rattle.pool_rule.specs.Trades.{Trades}
use Rattle.pool_tests.proofs.marks.left_in_order.Given as goal

abbrev pub invariant-loop-i : goal.invariant-loop-i
invariant-loop-i g l = Trades l.initial.w.holds (take l.i l.gone) [] l.w.holds
