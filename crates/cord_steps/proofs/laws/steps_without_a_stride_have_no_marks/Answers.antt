-- The facts of `steps_without_a_stride_have_no_marks` that the check leaves to be shown.
use Rattle.cord_steps.proofs.NoteLaws.{step-none}
use Rattle.cord_steps.proofs.laws.steps_without_a_stride_have_no_marks.Goals as goal

pub returns : goal.returns
returns g c = record {
  answer = λ options p s cells request answer e none step all. (step-none options p s cells request answer e none step all).0;
  notes = λ options p s cells request answer e none step all. (step-none options p s cells request answer e none step all).1;
}
