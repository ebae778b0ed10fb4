-- The needle stands at no place in a chunk that was passed.
use Rattle.std.proofs.Common.{◌≡◌, ◌≤◌, length}
use Rattle.memchr.specs.Find.{OccursAt, Nowhere}
use Rattle.chunk_reader.specs.Readings.{left}
use Rattle.cord_query.proofs.searching.find_with.Given as goal

abbrev pub invariant-loop-chunk : goal.invariant-loop-chunk
invariant-loop-chunk g l = record {
  bytes : l.rest.bytes ≡ l.cord.bytes;
  at : l.rest.at ≡ l.start;
  within : l.start ≤ l.size;
  ahead : l.ahead.bytes ≡ l.cord.bytes;
  none : Nowhere (OccursAt l.cord.bytes l.needle) 0 l.start;
}

abbrev pub decreases-loop-chunk : goal.decreases-loop-chunk
decreases-loop-chunk g l = length (left l.rest)
