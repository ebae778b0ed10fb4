-- A part of the reports' lines, and all of them with a part of the last line.
use Rattle.std.proofs.lemmas.Result.{err_from_is_err_and}
use Rattle.std.proofs.Common.{ap, sym, ◌∙◌, List, [], ◌∷◌, ◌++◌, append_assoc}
use Rattle.plain_cord.specs.declared.reply.Report.{Report}
use Rattle.report_text.specs.Replies.{line_of, report_lines, last_text}
use Rattle.report_text.specs.Outputs.{reply_line}
use Rattle.report_text.proofs.Writings.{fails_first, goes_on}
use Rattle.report_text.proofs.writing.write_reply.Goals as goal

pub returns-in_err-write_reports : goal.returns-in_err-write_reports
returns-in_err-write_reports g c =
    let reply = c.args.reply.now in
    let reports = c.reports_of.result.now in
    let failed = err_from_is_err_and c.from_residual.result c.from_residual.ensures.1 in
    rw failed.1 (fails_first _ _ _ _ (report_lines reports) (line_of (last_text reply)) (reply_line reply)
    (ap (λ (rs : List Report). report_lines rs ++ last_text reply ++ 10 ∷ []) (sym c.reports_of.ensures) ∙ append_assoc (report_lines reports) (last_text reply) (10 ∷ [])) c.in_err-write_reports.ensures)

pub returns : goal.returns
returns g c =
    let reply = c.args.reply.now in
    let reports = c.reports_of.result.now in
    let first = c.in_ok-write_reports.ensures in
    goes_on _ (g.K.Sink.held c.write_reports.new.sink) _ _ _ _ (report_lines reports) (line_of (last_text reply)) (reply_line reply)
    (ap (λ (rs : List Report). report_lines rs ++ last_text reply ++ 10 ∷ []) (sym c.reports_of.ensures) ∙ append_assoc (report_lines reports) (last_text reply) (10 ∷ []))
    first.whole first.kept c.write_last.ensures
