-- Each command keeps cords fit, and answers and notes what can be read back.
use Rattle.run_laws.proofs.ReadableRuns.{run-readable, run-cells}
use Rattle.run_laws.proofs.texts.plain_runs_are_readable.Goals as goal

pub returns-clause-readable : goal.returns-clause-readable
returns-clause-readable c = λ script books history limits texts run. run-readable script books history limits texts run

pub returns-clause-cells : goal.returns-clause-cells
returns-clause-cells c = λ script books history limits run. run-cells script books history limits run
