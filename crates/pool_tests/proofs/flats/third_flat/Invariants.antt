-- So many flats are held.
use Rattle.std.proofs.Common.{◌≡◌, length}
use Rattle.pool_tests.proofs.flats.third_flat.Given as goal

abbrev pub invariant-loop-i : goal.invariant-loop-i
invariant-loop-i g l = length l.w.holds ≡ l.i
