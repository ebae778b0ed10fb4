-- What was read is what the source had.
use Rattle.cord_sessions.proofs.EndingLaws.{refused-no_script, no_script-refused}
use Rattle.cord_sessions.proofs.laws.statuses_are_exact.Goals as goal

pub returns-clause-refused : goal.returns-clause-refused
returns-clause-refused c = λ command o bytes says told script spelled. refused-no_script command o bytes says told script spelled

pub returns-clause-no_script : goal.returns-clause-no_script
returns-clause-no_script c = λ command o ending bytes says told none. no_script-refused command o ending bytes says told none
