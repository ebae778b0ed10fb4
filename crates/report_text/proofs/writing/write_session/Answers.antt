-- A part of the name's line, and the whole line with a part of the answers.
use Rattle.std.proofs.lemmas.Result.{err_from_is_err_and}
use Rattle.std.proofs.Common.{ap, sym, ◌∙◌, ◌++◌}
use Rattle.report_text.specs.Outputs.{session_line, reply_lines, session_text}
use Rattle.report_text.proofs.Writings.{fails_first, goes_on}
use Rattle.report_text.proofs.writing.write_session.Goals as goal

pub returns-in_err-write_session_line : goal.returns-in_err-write_session_line
returns-in_err-write_session_line g c =
    let replies = c.args.book.now.replies in
    let failed = err_from_is_err_and c.from_residual.result c.from_residual.ensures.1 in
    rw failed.1 (fails_first _ _ _ _ (session_line c.as_slice.result.now) (reply_lines replies) (session_text (c.args.session.now, c.args.book.now))
    (ap (λ name. session_line name ++ reply_lines replies) (sym c.as_slice.ensures)) c.in_err-write_session_line.ensures)

pub returns : goal.returns
returns g c =
    let name = c.as_slice.result.now in
    let replies = c.as_slice-2.result.now in
    let first = c.in_ok-write_session_line.ensures in
    goes_on _ (g.K.Sink.held c.write_session_line.new.sink) _ _ _ _ (session_line name) (reply_lines replies) (session_text (c.args.session.now, c.args.book.now))
    (ap (λ name. session_line name ++ reply_lines c.args.book.now.replies) (sym c.as_slice.ensures) ∙ ap (λ replies. session_line name ++ reply_lines replies) (sym c.as_slice-2.ensures))
    first.whole first.kept c.write_replies.ensures
