-- The holds are the same after each round.
use Rattle.pool_rule.specs.Trades.{SameHolds}
use Rattle.pool_tests.proofs.queries.agreed.Given as goal

abbrev pub invariant-loop-chunk : goal.invariant-loop-chunk
invariant-loop-chunk g l =
    (goal.iterator-loop-chunk g).can_next l.chunk-iterator
    × (goal.iterator-loop-chunk g).is_finite l.chunk-iterator
    × SameHolds l.fn.w.holds l.w.holds

abbrev pub invariant-loop-place : goal.invariant-loop-place
invariant-loop-place g l = SameHolds l.fn.w.holds l.w.holds
