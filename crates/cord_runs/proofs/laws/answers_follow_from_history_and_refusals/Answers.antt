-- The facts of `answers_follow_from_history_and_refusals` that the check leaves to be shown.
use Rattle.cord_runs.proofs.AnswerLaws.{run-answers}
use Rattle.cord_runs.proofs.laws.answers_follow_from_history_and_refusals.Goals as goal

pub returns : goal.returns
returns g c =
    let steps = c.steps_without_a_stride_have_no_marks.ensures in
    run-answers steps.answer steps.notes c.runs_are_plain_runs.ensures c.books_are_determined.ensures
