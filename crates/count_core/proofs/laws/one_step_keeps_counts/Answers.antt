-- The facts of `one_step_keeps_counts` that the check leaves to be shown.
use Rattle.count_core.proofs.Runs.{does_sound}
use Rattle.count_core.proofs.laws.one_step_keeps_counts.Goals as goal

pub returns : goal.returns
returns c = does_sound
