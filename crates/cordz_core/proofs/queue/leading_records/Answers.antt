-- What was read off the front is no longer than the queue, and its slots fit.
use Rattle.std.proofs.Common.{lit<}
use Rattle.cordz_core.proofs.Sound.{front_below, front_short, front_room}
use Rattle.cordz_core.proofs.queue.leading_records.Goals as goal

pub returns-in-Snapshot-clause-within : goal.returns-in-Snapshot-clause-within
returns-in-Snapshot-clause-within c = front_short _ _ _ c.loop-waiting.invariant

pub returns-in-Snapshot-clause-slots : goal.returns-in-Snapshot-clause-slots
returns-in-Snapshot-clause-slots c = front_below _ _ _ c.loop-waiting.invariant c.requires.fit

pub push-requires : goal.push-requires
push-requires c = (lit< tt, front_room _ _ _ _ _ _ c.loop-waiting-test.true c.in-Record.is c.loop-waiting.invariant c.requires.apart c.requires.fit)

pub returns-clause-within : goal.returns-clause-within
returns-clause-within c = front_short _ _ _ c.loop-waiting.invariant

pub returns-clause-slots : goal.returns-clause-slots
returns-clause-slots c = front_below _ _ _ c.loop-waiting.invariant c.requires.fit
