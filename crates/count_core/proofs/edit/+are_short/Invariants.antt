-- What the loop of `are_short` keeps, or what grows less in its recursion.
use Rattle.std.proofs.Common.{length}
use Rattle.count_core.proofs.edit.+are_short.Given as goal

abbrev pub decreases-are_short : goal.decreases-are_short
decreases-are_short l = length l.path.now
