-- So many workers were made out of the first token.
use Rattle.std.proofs.Common.{◌≡◌, ◌≤◌, [], map, vec_len, vec_capacity}
use Rattle.node_pool.specs.Boxes.{below}
use Rattle.node_pool.specs.Starts.{slot_count, rest_after, worker_at}
use Rattle.node_pool.proofs.start.Opened.named.Given as goal

abbrev pub invariant-loop-i : goal.invariant-loop-i
invariant-loop-i g l = record {
  table : l.seat.table_id ≡ l.fn.self.table.shared.table_id;
  view : l.seat.me ≡ (rest_after l.fn.self.numbers l.fn.self.passes l.fn.self.workers (slot_count l.fn.self.workers l.fn.self.table.shared.table_id.slots) l.i, []);
  hired : l.hired.items ≡ map (worker_at l.fn.self.numbers l.fn.self.passes (slot_count l.fn.self.workers l.fn.self.table.shared.table_id.slots)) (below l.i);
  count : vec_len l.hired ≡ l.i;
  room : l.fn.self.workers ≤ vec_capacity l.hired;
}
