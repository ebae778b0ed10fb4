-- The needle stands at no place that was passed.
use Rattle.std.proofs.Common.{◌+◌, ◌-◌, ◌≤◌, length}
use Rattle.memchr.specs.Find.{OccursAt, Nowhere}
use Rattle.cord_query.specs.Readers.{SameText}
use Rattle.cord_query.proofs.searching.across.Given as goal

abbrev pub invariant-loop-next : goal.invariant-loop-next
invariant-loop-next l = record {
  within : l.from ≤ length l.chunk;
  later : length l.chunk + 1 - length l.needle ≤ l.from;
  none : Nowhere (OccursAt l.initial.ahead.bytes l.needle) (l.start + (length l.chunk + 1 - length l.needle)) (l.start + l.from);
  same : SameText l.initial.ahead l.ahead;
}

abbrev pub decreases-loop-next : goal.decreases-loop-next
decreases-loop-next l = length l.chunk - l.from
