-- What the loops of `emptied` keep.
use Rattle.std.proofs.Common.{◌≡◌, ℕ, ◌<◌, ◌≤◌, true, false, take, vec_len, vec_capacity, get_or}
use Rattle.std.specs.Mem.Slots.{slots_filled, slots_items, slots_len}
use Rattle.pool_rule.specs.Pools.{made_by, ended_by}
use Rattle.node_pool.specs.Closes.{IsWhole, numbers_in}
use Rattle.node_pool.specs.Outlets.{boxes_in}
use Rattle.node_pool.proofs.close.emptied.Given as goal

abbrev pub invariant-loop-n : goal.invariant-loop-n
invariant-loop-n g l = record {
  few : l.in_use ≤ l.n;
  idle : IsWhole l.fn.table.shared.key.workers l.fn.seat.me.0 → l.in_use ≡ 0;
  held : l.fn.seat.me.0.passes ≡ 0 → made_by l.fn.seat.me.0 ≡ ended_by l.fn.seat.me.0 → l.in_use ≡ numbers_in l.n l.fn.seat.me.0.holds;
  least : numbers_in l.n l.fn.seat.me.0.holds ≤ l.in_use;
  free : l.in_use ≡ 0 → (k : ℕ) → k < l.n → get_or (slots_items l.closed.words) k 0 ≡ 0;
}

abbrev pub invariant-loop-i : goal.invariant-loop-i
invariant-loop-i g l = record {
  len : slots_len l.closed.slots ≡ slots_len l.initial.closed.slots;
  items : slots_items l.closed.slots ≡ slots_items l.initial.closed.slots;
  gave : l.returned.items ≡ boxes_in (take l.i (slots_items l.initial.closed.slots));
  room : (vec_len l.returned ≤ l.i) × (l.fn.table.shared.table_id.slots ≤ vec_capacity l.returned);
  full : (k : ℕ) → l.i ≤ k → k < slots_len l.closed.slots → get_or (slots_filled l.closed.slots) k false ≡ true;
  empty : (k : ℕ) → k < l.i → get_or (slots_filled l.closed.slots) k false ≡ false;
}
