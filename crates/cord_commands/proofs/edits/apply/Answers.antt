-- Each edit keeps the passes even.
use Rattle.cord_commands.proofs.Steady.{changed-steady}
use Rattle.cord_commands.proofs.edits.apply.Goals as goal

pub returns-in-Double-clause-steady : goal.returns-in-Double-clause-steady
returns-in-Double-clause-steady g c = let e = c.double.ensures in changed-steady g.P.Naming.limit 32 _ _ _ _ c.double.result e.change e.balanced e.same

pub returns-in-CutFront-clause-steady : goal.returns-in-CutFront-clause-steady
returns-in-CutFront-clause-steady g c = let e = c.cut_front.ensures in changed-steady g.P.Naming.limit 32 _ _ _ _ c.cut_front.result e.change e.balanced e.same

pub returns-in-CutBack-clause-steady : goal.returns-in-CutBack-clause-steady
returns-in-CutBack-clause-steady g c = let e = c.cut_back.ensures in changed-steady g.P.Naming.limit 32 _ _ _ _ c.cut_back.result e.change e.balanced e.same

pub returns-in-SetSum-clause-steady : goal.returns-in-SetSum-clause-steady
returns-in-SetSum-clause-steady g c = let e = c.set_sum.ensures in changed-steady g.P.Naming.limit 2 _ _ _ _ c.set_sum.result e.change e.balanced e.same
