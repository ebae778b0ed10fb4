-- What grows less in the recursion of `edit_below`.
use Rattle.std.proofs.Common.{length}
use Rattle.node_edges.proofs.edit.+edit_below.Given as goal

abbrev pub decreases-edit_below : goal.decreases-edit_below
decreases-edit_below l = length l.path.now
