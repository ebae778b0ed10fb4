-- The facts of `sessions_go_on_alone` that the check leaves to be shown.
use Rattle.cord_runs.specs.Alone.{StepsAlone}
use Rattle.cord_runs.proofs.AloneLaws.{runs-more}
use Rattle.cord_runs.proofs.alone.sessions_go_on_alone.Goals as goal

pub returns : goal.returns
returns g c = λ options. runs-more (StepsAlone options)
