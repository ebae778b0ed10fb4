-- The facts of `takes_and_returns_alternate` that the check leaves to be shown.
use Rattle.count_core.specs.Steps.{start}
use Rattle.count_core.proofs.Runs.{start_sound, started_alternates, run_frees}
use Rattle.count_core.proofs.laws.takes_and_returns_alternate.Goals as goal

pub returns : goal.returns
returns c = record {
  alternate = λ numbers workers moments x r n. started_alternates numbers workers n moments x r;
  free = λ numbers workers moments x r n. run_frees n moments (start numbers workers) x (start_sound numbers workers) r;
}
