-- A part of a report's line, behind the lines before it, and the whole of it.
use Rattle.std.proofs.lemmas.Result.{err_from_is_err_and}
use Rattle.std.proofs.Common.{◌∙◌, subst, take, drop, suc, get_or, List, ℕ, []}
use Rattle.std.specs.Io.KnownBytes.{Appends}
use Rattle.cord_port.proofs.Appending.{appends_more}
use Rattle.plain_cord.specs.declared.reply.Report.{Report}
use Rattle.report_text.specs.Replies.{report_line, report_lines}
use Rattle.report_text.proofs.Parts.{flat_map-parts, flat_map-more}
use Rattle.report_text.proofs.Writings.{fails_behind}
use Rattle.report_text.proofs.reports.write_reports.Goals as goal

no_report : Report
no_report = record { stamp = 0; update = 0; statistics = record { size = 0; nodes = 0; flat = 0; external = 0; part = 0; sum = 0; branch = 0; buckets = []; memory = 0 } }

pub returns-in_err-write_report : goal.returns-in_err-write_report
unfolding no_report
returns-in_err-write_report g c =
    let reports = c.args.reports.now in
    let i = c.loop-report.report-index in
    let failed = err_from_is_err_and c.from_residual.result c.from_residual.ensures.1 in
    rw failed.1 (fails_behind _ (g.K.Sink.held c.loop-report.sink) _ _ _ _ (report_lines (take i reports)) (report_line (get_or reports i no_report)) (report_lines (drop (suc i) reports)) (report_lines reports)
    (flat_map-parts report_line reports i no_report c.loop-report-test.true) c.loop-report.invariant.held c.loop-report.invariant.faults c.in_err-write_report.ensures)

pub loop-report-preserved : goal.loop-report-preserved
unfolding no_report
loop-report-preserved g c =
    let reports = c.args.reports.now in
    let i = c.loop-report.report-index in
    record {
      held = subst (λ (text : List ℕ). Appends (g.K.Sink.held c.args.sink.now) (g.K.Sink.held c.write_report.new.sink) text) (flat_map-more report_line reports i no_report c.loop-report-test.true)
          (appends_more _ (g.K.Sink.held c.loop-report.sink) _ (report_lines (take i reports)) (report_line (get_or reports i no_report)) c.loop-report.invariant.held c.in_ok-write_report.ensures.whole);
      faults = c.in_ok-write_report.ensures.kept ∙ c.loop-report.invariant.faults;
    }
