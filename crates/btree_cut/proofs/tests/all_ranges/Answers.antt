-- What the proof of `all_ranges` needs beyond the search.
use Rattle.std.proofs.Common.{arith}
use Rattle.btree_cut.proofs.tests.all_ranges.Goals as goal

pub ranges_from-requires-clause-held : goal.ranges_from-requires-clause-held
ranges_from-requires-clause-held g c = record { weighs = λ f. omega (arith, c.requires.held.weighs f, c.loop-start.invariant.weighs f) }

pub ranges_from-requires-clause-room : goal.ranges_from-requires-clause-room
ranges_from-requires-clause-room g c = omega (arith, c.requires.room, c.loop-start.invariant.count)
