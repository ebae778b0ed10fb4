-- The books are read back from their text.
use Rattle.report_text.proofs.OutputLaws.{books_known}
use Rattle.report_text.proofs.laws.different_books_print_differently.Goals as goal

pub returns : goal.returns
returns c = λ sessions books others history later left rest pool p q e. (books_known sessions books others history later left rest pool p q e).0
