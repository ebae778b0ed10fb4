-- The bytes in front of the place went to the sink below.
use Rattle.std.proofs.Common.{◌≡◌, ◌-◌, drop, vec_len}
use Rattle.cord_port.proofs.Handing.{Handed}
use Rattle.cord_port.proofs.buffered_sink.BufferedSink.flush.Given as goal

abbrev pub invariant-loop-self : goal.invariant-loop-self
invariant-loop-self g l = record {
  bytes : l.self.bytes ≡ l.initial.self.bytes;
  handed : Handed (g.K.Sink.held l.initial.self.below) (g.K.Sink.held l.self.below) (drop l.initial.self.passed l.initial.self.bytes.items) (drop l.self.passed l.self.bytes.items);
  faults : g.K.Sink.faults l.self.below ≡ g.K.Sink.faults l.initial.self.below;
}

abbrev pub decreases-loop-self : goal.decreases-loop-self
decreases-loop-self g l = vec_len l.self.bytes - l.self.passed
