-- What the proof of `ranges_from` needs beyond the search.
use Rattle.std.proofs.Common.{arith}
use Rattle.btree_cut.proofs.tests.ranges_from.Goals as goal

pub ranges_are-requires-clause-held : goal.ranges_are-requires-clause-held
ranges_are-requires-clause-held g c = record { weighs = λ f. omega (arith, c.requires.held.weighs f, c.loop-n.invariant.weighs f) }

pub ranges_are-requires-clause-room : goal.ranges_are-requires-clause-room
ranges_are-requires-clause-room g c = omega (arith, c.requires.room, c.loop-n.invariant.count)
