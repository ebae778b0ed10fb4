-- The facts of `steps_keep_cords_whole` that the check leaves to be shown.
use Rattle.cord_steps.proofs.StayLaws.{step-whole}
use Rattle.cord_steps.proofs.laws.steps_keep_cords_whole.Goals as goal

pub returns : goal.returns
returns g c = step-whole
