-- What the loop of `is_lone` keeps, or what grows less in its recursion.
use Rattle.std.proofs.Common.{length}
use Rattle.count_core.proofs.edit.+is_lone.Given as goal

abbrev pub decreases-is_lone : goal.decreases-is_lone
decreases-is_lone l = length l.path.now
