-- What is left of both decides.
use Rattle.std.proofs.Common.{◌≡◌, length}
use Rattle.std.specs.Ordering.{nat_cmp}
use Rattle.std.specs.Cmp.Lexicographic.{slice_cmp}
use Rattle.chunk_reader.specs.Readings.{left}
use Rattle.cord_query.proofs.order.compare.Given as goal

abbrev pub invariant-loop-chunk : goal.invariant-loop-chunk
invariant-loop-chunk g l = slice_cmp nat_cmp (left l.rest) (left l.other) ≡ slice_cmp nat_cmp l.a.bytes l.b.bytes

abbrev pub decreases-loop-chunk : goal.decreases-loop-chunk
decreases-loop-chunk g l = length (left l.rest)
