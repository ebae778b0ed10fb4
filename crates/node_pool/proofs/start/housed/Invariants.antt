-- Each box so far has a slot, and there is room for the others.
use Rattle.std.proofs.Common.{◌≡◌, ◌+◌, ◌≤◌, map, length, vec_len, vec_capacity}
use Rattle.std.specs.Option.{option_map}
use Rattle.std.specs.Vec.Iter.{into_iter_items}
use Rattle.node_pool.specs.declared.outlet.Outlet.{Outlet}
use Rattle.node_pool.specs.Boxes.{handed_of, fresh_of, box_of}
use Rattle.node_pool.specs.Outlets.{boxes_in}
use Rattle.node_pool.proofs.start.housed.Given as goal

abbrev pub invariant-loop-releaser : goal.invariant-loop-releaser
invariant-loop-releaser g l = record {
  count : vec_len l.slots ≡ length l.yielded;
  counted : vec_len l.boxes ≡ length l.yielded;
  is : boxes_in l.slots.items ≡ l.yielded;
  slots : vec_len l.slots + length (into_iter_items l.releaser-iterator) ≤ vec_capacity l.slots;
  boxes : vec_len l.boxes + length (into_iter_items l.releaser-iterator) ≤ vec_capacity l.boxes;
  noted : map handed_of l.boxes.items ≡ map (λ b. record { calls = g.B.Releaser.calls_of b; latest = g.B.Releaser.latest_of b }) l.yielded;
  fresh : map (option_map (λ (o : Outlet g.row.B.Denot g.B.Releaser). box_of o.before o.latest o.length)) l.slots.items ≡ map fresh_of l.boxes.items;
}
