-- The holds are the same after each round.
use Rattle.pool_rule.specs.Trades.{SameHolds}
use Rattle.tree_bench.proofs.cords.add_parts.Given as goal

abbrev pub invariant-loop-i : goal.invariant-loop-i
invariant-loop-i g l = SameHolds l.fn.w.holds l.w.holds
