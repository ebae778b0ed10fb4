-- The facts of `tree_runs_are_plain_runs` that the check leaves to be shown.
use Rattle.cord_runs.specs.Scripts.{options_of, requests_of, boxes_of, answers_in}
use Rattle.cord_runs.proofs.scripts.tree_runs_are_plain_runs.Goals as goal

pub returns : goal.returns
returns c = λ script boxes books history ran. c.runs_are_plain_runs.ensures (options_of script) (boxes_of boxes) (requests_of script) (answers_in books) history ran.run
