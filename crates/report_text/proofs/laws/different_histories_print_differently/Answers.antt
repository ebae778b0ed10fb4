-- Behind the books the history is read back from its text.
use Rattle.report_text.proofs.OutputLaws.{texts_known}
use Rattle.report_text.proofs.HistoryLaws.{histories_known}
use Rattle.report_text.proofs.laws.different_histories_print_differently.Goals as goal

pub returns : goal.returns
returns c = λ sessions books others history later left rest pool a b p q m n e.
    let split = texts_known sessions books others history later left rest pool a b e in
    histories_known sessions history later left rest pool p q m n split.1
