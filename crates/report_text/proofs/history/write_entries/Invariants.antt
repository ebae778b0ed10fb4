-- The actions that were gone over are written.
use Rattle.std.proofs.Common.{◌≡◌, take}
use Rattle.std.specs.Io.KnownBytes.{Appends}
use Rattle.report_text.specs.Histories.{entry_lines}
use Rattle.report_text.proofs.history.write_entries.Given as goal

abbrev pub invariant-loop-entry : goal.invariant-loop-entry
invariant-loop-entry g l = record {
  held : Appends (g.K.Sink.held l.initial.sink) (g.K.Sink.held l.sink) (entry_lines l.sessions (take l.entry-index l.history));
  faults : g.K.Sink.faults l.sink ≡ g.K.Sink.faults l.initial.sink;
}
