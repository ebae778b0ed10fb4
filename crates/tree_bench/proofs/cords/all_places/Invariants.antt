-- The size is that of what is read.
use Rattle.std.proofs.Common.{◌≡◌, length}
use Rattle.tree_bench.proofs.cords.all_places.Given as goal

abbrev pub invariant-loop-i : goal.invariant-loop-i
invariant-loop-i g l = l.size ≡ length l.chunks.bytes
