-- Each other ending has a cause that is not there.
use Rattle.cord_sessions.proofs.EndingLaws.{script-done}
use Rattle.cord_sessions.proofs.laws.scripts_are_done.Goals as goal

pub returns : goal.returns
returns c = λ command o ending bytes script says told spelled few read written. script-done command o ending bytes script says told spelled few read written
