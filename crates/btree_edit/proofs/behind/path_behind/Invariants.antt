-- The places so far lead to the edge.
use Rattle.btree_edit.proofs.BehindLaws.{IsWayTo}
use Rattle.btree_edit.proofs.behind.path_behind.Given as goal

abbrev pub invariant-loop-height : goal.invariant-loop-height
invariant-loop-height l = IsWayTo l.root l.height l.edge l.path.items

abbrev pub decreases-loop-height : goal.decreases-loop-height
decreases-loop-height l = l.height
