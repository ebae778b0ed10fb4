-- The facts of `commands_are_answered_or_refused` that the check leaves to be shown.
use Rattle.cord_steps.proofs.RunLaws.{told-or-refused}
use Rattle.cord_steps.proofs.laws.commands_are_answered_or_refused.Goals as goal

pub returns : goal.returns
returns g c = told-or-refused
