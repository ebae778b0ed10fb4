-- The reports that were gone over are written.
use Rattle.std.proofs.Common.{◌≡◌, take}
use Rattle.std.specs.Io.KnownBytes.{Appends}
use Rattle.report_text.specs.Replies.{report_lines}
use Rattle.report_text.proofs.reports.write_reports.Given as goal

abbrev pub invariant-loop-report : goal.invariant-loop-report
invariant-loop-report g l = record {
  held : Appends (g.K.Sink.held l.initial.sink) (g.K.Sink.held l.sink) (report_lines (take l.report-index l.reports));
  faults : g.K.Sink.faults l.sink ≡ g.K.Sink.faults l.initial.sink;
}
