-- The facts of `told_runs_are_tree_runs` that the check leaves to be shown.
use Rattle.cord_runs.proofs.ScriptLaws.{told-run}
use Rattle.cord_runs.proofs.scripts.told_runs_are_tree_runs.Goals as goal

pub returns : goal.returns
returns c = told-run c.replies_tell_answers.ensures.told
