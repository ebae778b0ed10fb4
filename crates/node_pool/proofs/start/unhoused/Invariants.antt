-- The boxes of the slots so far are back, and there is room for the others.
use Rattle.std.proofs.Common.{◌≡◌, ◌+◌, ◌≤◌, length, vec_len, vec_capacity}
use Rattle.std.specs.Vec.Iter.{into_iter_items}
use Rattle.node_pool.specs.Outlets.{boxes_in}
use Rattle.node_pool.proofs.start.unhoused.Given as goal

abbrev pub invariant-loop-slot : goal.invariant-loop-slot
invariant-loop-slot g l = record {
  room : vec_len l.returned + length (into_iter_items l.slot-iterator) ≤ vec_capacity l.returned;
  gave : l.returned.items ≡ boxes_in l.yielded;
}
