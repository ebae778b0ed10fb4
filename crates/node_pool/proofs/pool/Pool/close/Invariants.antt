-- The seat is the workers so far in one.
use Rattle.std.proofs.Common.{◌≡◌, []}
use Rattle.node_pool.proofs.Closing.{IsMerged}
use Rattle.node_pool.proofs.pool.Pool.close.Given as goal

abbrev pub invariant-loop-worker : goal.invariant-loop-worker
invariant-loop-worker g l = record {
  table : l.seat.table_id ≡ l.fn.self.table.shared.table_id;
  carried : l.seat.me.1 ≡ [];
  merged : IsMerged l.initial.seat.me.0 l.yielded l.seat.me.0;
}
