-- The books, the history and the pool, one after another, each whole or in part.
use Rattle.std.proofs.lemmas.Result.{err_from_is_err_and}
use Rattle.std.proofs.Common.{ap, sym, ◌∙◌, ◌++◌, append_assoc}
use Rattle.cord_port.proofs.Appending.{appends_more}
use Rattle.report_text.specs.Histories.{history_text, pool_line}
use Rattle.report_text.specs.Outputs.{books_text, output_text}
use Rattle.report_text.proofs.Writings.{fails_first, fails_behind, goes_on}
use Rattle.report_text.proofs.writing.write_run.Goals as goal

pub returns-in_err-write_sessions : goal.returns-in_err-write_sessions
returns-in_err-write_sessions g c =
    let script = c.args.script.now in
    let sessions = c.as_slice-sessions.result.now in
    let books = books_text sessions c.args.books.now in
    let history = history_text sessions c.args.history.now in
    let pool = pool_line c.args.left script.pool in
    let whole = output_text script.sessions c.args.books.now c.args.history.now c.args.left script.pool in
    let text = ap (λ ss. output_text ss c.args.books.now c.args.history.now c.args.left script.pool) (sym c.as_slice-sessions.ensures) in
    let failed = err_from_is_err_and c.from_residual.result c.from_residual.ensures.1 in
    rw failed.1 (fails_first _ _ _ _ books (history ++ pool) whole (text ∙ append_assoc books history pool) c.in_err-write_sessions.ensures)

pub returns-in_err-write_history : goal.returns-in_err-write_history
returns-in_err-write_history g c =
    let script = c.args.script.now in
    let sessions = c.as_slice-sessions.result.now in
    let books = books_text sessions c.args.books.now in
    let history = history_text sessions c.args.history.now in
    let pool = pool_line c.args.left script.pool in
    let whole = output_text script.sessions c.args.books.now c.args.history.now c.args.left script.pool in
    let text = ap (λ ss. output_text ss c.args.books.now c.args.history.now c.args.left script.pool) (sym c.as_slice-sessions.ensures) in
    let first = c.in_ok-write_sessions.ensures in
    let failed = err_from_is_err_and c.from_residual-in_err-write_history.result c.from_residual-in_err-write_history.ensures.1 in
    rw failed.1 (fails_behind _ (g.K.Sink.held c.write_sessions.new.sink) _ _ _ _ books history pool whole (text ∙ append_assoc books history pool) first.whole first.kept c.in_err-write_history.ensures)

pub returns : goal.returns
returns g c =
    let script = c.args.script.now in
    let sessions = c.as_slice-sessions.result.now in
    let books = books_text sessions c.args.books.now in
    let history = history_text sessions c.args.history.now in
    let pool = pool_line c.args.left script.pool in
    let whole = output_text script.sessions c.args.books.now c.args.history.now c.args.left script.pool in
    let text = ap (λ ss. output_text ss c.args.books.now c.args.history.now c.args.left script.pool) (sym c.as_slice-sessions.ensures) in
    let first = c.in_ok-write_sessions.ensures in
    let second = c.in_ok-write_history.ensures in
    goes_on _ (g.K.Sink.held c.write_history.new.sink) _ _ _ _ (books ++ history) pool whole text
    (appends_more _ (g.K.Sink.held c.write_sessions.new.sink) _ books history first.whole second.whole) (second.kept ∙ first.kept) c.write_pool.ensures
