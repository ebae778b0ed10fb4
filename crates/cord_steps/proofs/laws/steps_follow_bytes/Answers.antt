-- The facts of `steps_follow_bytes` that the check leaves to be shown.
use Rattle.cord_steps.proofs.ByteLaws.{follows-bytes}
use Rattle.cord_steps.proofs.laws.steps_follow_bytes.Goals as goal

pub returns : goal.returns
returns g c = follows-bytes _
