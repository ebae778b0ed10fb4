-- So many were kept.
use Rattle.std.proofs.Common.{◌≡◌, take}
use Rattle.cordz_core.proofs.queue.behind.Given as goal

abbrev pub invariant-loop-waiting : goal.invariant-loop-waiting
invariant-loop-waiting l = l.kept.items ≡ take l.waiting-index l.waiting-items
