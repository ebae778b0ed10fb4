-- The sessions that were gone over are written.
use Rattle.std.proofs.Common.{◌≡◌, take}
use Rattle.std.specs.Io.KnownBytes.{Appends}
use Rattle.std.specs.List.{flat_map, zip}
use Rattle.report_text.specs.Outputs.{session_text}
use Rattle.report_text.proofs.writing.write_sessions.Given as goal

abbrev pub invariant-loop-i : goal.invariant-loop-i
invariant-loop-i g l = record {
  held : Appends (g.K.Sink.held l.initial.sink) (g.K.Sink.held l.sink) (flat_map session_text (take l.i (zip l.sessions l.books)));
  faults : g.K.Sink.faults l.sink ≡ g.K.Sink.faults l.initial.sink;
}
