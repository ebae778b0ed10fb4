-- Passes stay even.
use Rattle.cord_commands.proofs.Steady.{changed-steady}
use Rattle.cord_commands.proofs.joining.add_cord.Goals as goal

pub returns-in-Front-clause-steady : goal.returns-in-Front-clause-steady
returns-in-Front-clause-steady g c = let e = c.prepend_cord.ensures in changed-steady g.P.Naming.limit 32 _ _ _ _ c.prepend_cord.result e.change e.balanced e.same

pub returns-in-Back-clause-steady : goal.returns-in-Back-clause-steady
returns-in-Back-clause-steady g c = let e = c.append_cord.ensures in changed-steady g.P.Naming.limit 32 _ _ _ _ c.append_cord.result e.change e.balanced e.same
