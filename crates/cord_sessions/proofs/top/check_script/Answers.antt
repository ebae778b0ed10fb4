-- There are no boxes.
use Rattle.std.proofs.Common.{[]}
use Rattle.cord_sessions.proofs.top.check_script.Goals as goal

pub returns : goal.returns
returns g c = (c.check_to_end.result, c.status.ensures, c.check_to_end.ensures [])
