-- What is left decides.
use Rattle.std.proofs.Common.{◌≡◌, length, take}
use Rattle.std.specs.Ordering.{nat_cmp}
use Rattle.std.specs.Cmp.Lexicographic.{slice_cmp}
use Rattle.chunk_reader.specs.Readings.{left, passed}
use Rattle.cord_query.specs.Readers.{SameText}
use Rattle.cord_query.proofs.reading.compare_next.Given as goal

abbrev pub invariant-loop-rest : goal.invariant-loop-rest
invariant-loop-rest l = record {
  ends : passed (length l.rest) l.chunks ≡ passed (length l.text) l.initial.chunks;
  same : SameText l.initial.chunks l.chunks;
  order : slice_cmp nat_cmp l.rest (take (length l.rest) (left l.chunks)) ≡ slice_cmp nat_cmp l.text (take (length l.text) (left l.initial.chunks));
}

abbrev pub decreases-loop-rest : goal.decreases-loop-rest
decreases-loop-rest l = length l.rest
