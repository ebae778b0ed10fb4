-- The facts of `resource_refusals_show_their_cause` that the check leaves to be shown.
use Rattle.cord_steps.proofs.CauseLaws.{shows-cause}
use Rattle.cord_steps.proofs.laws.resource_refusals_show_their_cause.Goals as goal

pub returns : goal.returns
returns g c = shows-cause
