-- The records so far, with those at the front of the rest, are those at the front of the queue.
use Rattle.std.proofs.Common.{◌≡◌, ◌++◌, drop}
use Rattle.cordz_core.specs.Queue.{leading}
use Rattle.cordz_core.proofs.queue.leading_records.Given as goal

abbrev pub invariant-loop-waiting : goal.invariant-loop-waiting
invariant-loop-waiting l = l.records.items ++ leading (drop l.waiting-index l.queue) ≡ leading l.queue
