-- What the proof of `slots_of` needs beyond the search.
use Rattle.std.proofs.Common.{arith, length, ap}
use Rattle.turn_desk.proofs.start.slots_of.Goals as goal

pub push_reserved-requires : goal.push_reserved-requires
push_reserved-requires g c = let next = ap length c.in-Some.ensures.steps.0 in let room = c.loop-value.invariant.room in omega arith
