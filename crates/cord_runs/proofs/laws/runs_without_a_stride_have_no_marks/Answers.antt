-- The facts of `runs_without_a_stride_have_no_marks` that the check leaves to be shown.
use Rattle.cord_runs.proofs.MarkLaws.{run-unmarked}
use Rattle.cord_runs.proofs.laws.runs_without_a_stride_have_no_marks.Goals as goal

pub returns : goal.returns
returns g c = λ options boxes sessions books history p answer none run.
    let steps = c.steps_without_a_stride_have_no_marks.ensures in
    run-unmarked steps.answer steps.notes options none boxes sessions books history run.answered run.plays p answer
