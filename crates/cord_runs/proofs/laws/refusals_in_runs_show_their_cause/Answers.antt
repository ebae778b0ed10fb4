-- The facts of `refusals_in_runs_show_their_cause` that the check leaves to be shown.
use Rattle.cord_runs.proofs.OrderLaws.{run-shows}
use Rattle.cord_runs.proofs.laws.refusals_in_runs_show_their_cause.Goals as goal

pub returns : goal.returns
returns g c = run-shows c.resource_refusals_show_their_cause.ensures
