-- Each seat so far gave its worker, and there is room for the others.
use Rattle.std.proofs.Common.{◌≡◌, ◌+◌, ◌≤◌, length, vec_len, vec_capacity}
use Rattle.std.specs.Vec.Iter.{into_iter_items}
use Rattle.desk_seats.proofs.seating.left.Given as goal

abbrev pub invariant-loop-seat : goal.invariant-loop-seat
invariant-loop-seat g l = record {
  count : vec_len l.workers ≡ length l.yielded;
  room : vec_len l.workers + length (into_iter_items l.seat-iterator) ≤ vec_capacity l.workers;
}
