-- The facts of `runs_are_plain_runs` that the check leaves to be shown.
use Rattle.cord_runs.proofs.KeptLaws.{run-plain}
use Rattle.cord_runs.proofs.laws.runs_are_plain_runs.Goals as goal

pub returns : goal.returns
returns g c = run-plain c.runs_without_refusals_are_plain_runs.ensures.whole
