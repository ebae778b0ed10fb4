-- The facts of `answers_in_runs_are_told_by_their_replies` that the check leaves to be shown.
use Rattle.cord_runs.proofs.ScriptLaws.{run-tells}
use Rattle.cord_runs.proofs.scripts.answers_in_runs_are_told_by_their_replies.Goals as goal

pub returns : goal.returns
returns c = run-tells c.replies_tell_answers.ensures.told
