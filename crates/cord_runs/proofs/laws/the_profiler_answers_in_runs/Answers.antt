-- The fact of `the_profiler_answers_in_runs` that the check leaves to be shown.
use Rattle.cord_runs.proofs.WatchLaws.{run-watched}
use Rattle.cord_runs.proofs.laws.the_profiler_answers_in_runs.Goals as goal

pub returns : goal.returns
returns g c = run-watched
