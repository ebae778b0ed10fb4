-- The room has the values of the slots so far, and there is room for the others.
use Rattle.std.proofs.Common.{◌≡◌, ◌+◌, ◌≤◌, length, vec_len, vec_capacity}
use Rattle.std.specs.Vec.Iter.{into_iter_items}
use Rattle.turn_desk.specs.Spots.{values_of}
use Rattle.turn_desk.proofs.start.taken_from.Given as goal

abbrev pub invariant-loop-slot : goal.invariant-loop-slot
invariant-loop-slot g l = record {
  values : l.room.items ≡ values_of l.yielded;
  room : vec_len l.room + length (into_iter_items l.slot-iterator) ≤ vec_capacity l.room;
}
