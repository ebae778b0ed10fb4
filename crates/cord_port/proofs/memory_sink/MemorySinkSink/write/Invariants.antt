-- So many bytes of the piece were taken.
use Rattle.std.proofs.Common.{◌≡◌, ◌+◌, ◌≤◌, ◌++◌, take, vec_len, vec_capacity}
use Rattle.cord_port.proofs.memory_sink.MemorySinkSink.write.Given as goal

abbrev pub invariant-loop-i : goal.invariant-loop-i
invariant-loop-i l = record {
  items : l.self.bytes.items ≡ l.initial.self.bytes.items ++ take l.i l.bytes;
  len : vec_len l.self.bytes ≡ vec_len l.initial.self.bytes + l.i;
  room : vec_len l.initial.self.bytes + l.count ≤ vec_capacity l.self.bytes;
  capacity : vec_capacity l.self.bytes ≡ vec_capacity l.initial.self.bytes;
  faults : l.self.faults ≡ l.initial.self.faults;
  calls : l.self.calls ≡ l.initial.self.calls;
  fails : l.self.fails ≡ l.initial.self.fails;
  most : l.self.most ≡ l.initial.self.most;
}
