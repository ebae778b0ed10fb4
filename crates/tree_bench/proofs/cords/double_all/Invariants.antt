-- The holds are the same after each round.
use Rattle.pool_rule.specs.Trades.{SameHolds}
use Rattle.tree_bench.proofs.cords.double_all.Given as goal

abbrev pub invariant-loop : goal.invariant-loop
invariant-loop g l = SameHolds l.fn.w.holds l.w.holds
