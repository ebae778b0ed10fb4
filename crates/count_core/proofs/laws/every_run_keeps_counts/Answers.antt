-- The facts of `every_run_keeps_counts` that the check leaves to be shown.
use Rattle.count_core.specs.Steps.{start}
use Rattle.count_core.proofs.Runs.{start_sound, run_sound, started_places}
use Rattle.count_core.proofs.laws.every_run_keeps_counts.Goals as goal

pub returns : goal.returns
returns c = record {
  sound = λ numbers workers moments x r. run_sound moments (start numbers workers) x (start_sound numbers workers) r;
  places = started_places;
}
