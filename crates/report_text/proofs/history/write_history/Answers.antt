-- A part of the count's line, and the whole line with a part of the actions.
use Rattle.std.proofs.lemmas.Result.{err_from_is_err_and}
use Rattle.std.proofs.Common.{refl, length}
use Rattle.report_text.specs.Histories.{count_line, entry_lines, history_text}
use Rattle.report_text.proofs.Writings.{fails_first, goes_on}
use Rattle.report_text.proofs.history.write_history.Goals as goal

pub returns-in_err-write_count : goal.returns-in_err-write_count
returns-in_err-write_count g c =
    let sessions = c.args.sessions.now in
    let history = c.args.history.now in
    let failed = err_from_is_err_and c.from_residual.result c.from_residual.ensures.1 in
    rw failed.1 (fails_first _ _ _ _ (count_line (length history)) (entry_lines sessions history) (history_text sessions history) refl c.in_err-write_count.ensures)

pub returns : goal.returns
returns g c =
    let sessions = c.args.sessions.now in
    let history = c.args.history.now in
    let first = c.in_ok-write_count.ensures in
    goes_on _ (g.K.Sink.held c.write_count.new.sink) _ _ _ _ (count_line (length history)) (entry_lines sessions history) (history_text sessions history) refl first.whole first.kept c.write_entries.ensures
