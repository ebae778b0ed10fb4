-- The text tells the history, and the history the books.
use Rattle.std.proofs.Common.{sym, subst, List}
use Rattle.plain_cord.specs.declared.history.Entry.{Entry}
use Rattle.plain_cord.specs.Runs.{IsPlainRun}
use Rattle.run_laws.proofs.texts.different_runs_of_a_script_print_differently.Goals as goal

pub returns : goal.returns
returns c = λ script books others history later limits one other e.
    let same = c.histories_of_a_script_print_differently.ensures script books others history later limits one other e in
    let alike = subst (λ (entries : List Entry). IsPlainRun script.sessions others entries) (sym same) other in
    (c.books_are_determined.ensures script.sessions books others history one alike, same)
