-- The answers that were gone over are written.
use Rattle.std.proofs.Common.{◌≡◌, take}
use Rattle.std.specs.Io.KnownBytes.{Appends}
use Rattle.report_text.specs.Outputs.{reply_lines}
use Rattle.report_text.proofs.writing.write_replies.Given as goal

abbrev pub invariant-loop-reply : goal.invariant-loop-reply
invariant-loop-reply g l = record {
  held : Appends (g.K.Sink.held l.initial.sink) (g.K.Sink.held l.sink) (reply_lines (take l.reply-index l.replies));
  faults : g.K.Sink.faults l.sink ≡ g.K.Sink.faults l.initial.sink;
}
