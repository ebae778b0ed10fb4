-- Line by line, in the order of the history, the answers are the same.
use Rattle.plain_laws.proofs.SameRuns.{same-books}
use Rattle.plain_laws.proofs.runs.books_are_determined.Goals as goal

pub returns : goal.returns
returns c = λ sessions books others history one other. same-books sessions books others history one other
