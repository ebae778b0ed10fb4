-- The books are read back from their text, and then the history and the pool.
use Rattle.report_text.proofs.OutputLaws.{books_known}
use Rattle.report_text.proofs.HistoryLaws.{histories_known}
use Rattle.report_text.proofs.laws.different_runs_print_differently.Goals as goal

pub returns : goal.returns
returns c = λ sessions books others history later left rest pool p q m n e.
    let split = books_known sessions books others history later left rest pool p.answers q.answers e in
    let same = histories_known sessions history later left rest pool p.actions q.actions m n split.1 in
    (split.0, same.0, same.1)
