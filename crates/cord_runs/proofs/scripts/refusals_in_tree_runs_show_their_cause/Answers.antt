-- The facts of `refusals_in_tree_runs_show_their_cause` that the check leaves to be shown.
use Rattle.cord_runs.proofs.ScriptLaws.{cords-caused, pool-caused}
use Rattle.cord_runs.proofs.scripts.refusals_in_tree_runs_show_their_cause.Goals as goal

pub returns : goal.returns
returns c = record {
  cords = λ script boxes books history p found ran. cords-caused c.refusals_in_runs_show_their_cause.ensures script boxes books history p found ran;
  pool = λ script boxes books history p size ran. pool-caused c.refusals_in_runs_show_their_cause.ensures script boxes books history p size ran;
}
