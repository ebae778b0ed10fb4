-- Each value so far has a slot, and there is room for the others.
use Rattle.std.proofs.Common.{◌≡◌, ◌+◌, ◌≤◌, map, length, vec_len, vec_capacity, Some}
use Rattle.std.specs.Vec.Iter.{into_iter_items}
use Rattle.turn_desk.proofs.start.slots_of.Given as goal

abbrev pub invariant-loop-value : goal.invariant-loop-value
invariant-loop-value g l = record {
  slots : l.slots.items ≡ map Some l.yielded;
  room : vec_len l.slots + length (into_iter_items l.value-iterator) ≤ vec_capacity l.slots;
}
