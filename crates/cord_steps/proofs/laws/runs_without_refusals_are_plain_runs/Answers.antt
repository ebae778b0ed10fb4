-- The facts of `runs_without_refusals_are_plain_runs` that the check leaves to be shown.
use Rattle.cord_steps.proofs.RunLaws.{run-kept, run-from_start}
use Rattle.cord_steps.proofs.laws.runs_without_refusals_are_plain_runs.Goals as goal

pub returns : goal.returns
returns g c = record {
  lines = λ options. run-kept options c.resource_refusals_change_nothing.ensures;
  whole = λ options. run-from_start options c.resource_refusals_change_nothing.ensures;
}
