-- The facts of `steps_forget_bytes` that the check leaves to be shown.
use Rattle.count_core.proofs.Bare.{steps_bare}
use Rattle.count_core.proofs.laws.steps_forget_bytes.Goals as goal

pub returns : goal.returns
returns c = steps_bare
