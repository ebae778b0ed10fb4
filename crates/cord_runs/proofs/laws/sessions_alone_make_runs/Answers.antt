-- The facts of `sessions_alone_make_runs` that the check leaves to be shown.
use Rattle.cord_runs.proofs.MergeLaws.{run-alone, run-unsampled}
use Rattle.cord_runs.proofs.laws.sessions_alone_make_runs.Goals as goal

pub returns : goal.returns
returns g c =
    let steps = c.steps_without_a_stride_have_no_marks.ensures in
    record { sampled = run-alone; unsampled = λ options. run-unsampled options steps.answer steps.notes }
