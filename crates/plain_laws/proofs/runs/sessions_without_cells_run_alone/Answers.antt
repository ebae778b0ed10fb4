-- Each of its lines does its plain step, from the names that its own line before left.
use Rattle.plain_laws.proofs.AloneLaws.{runs-alone}
use Rattle.plain_laws.proofs.runs.sessions_without_cells_run_alone.Goals as goal

pub returns : goal.returns
returns c = λ sessions books history p session book run one other apart. runs-alone sessions books history p session book run one other apart
