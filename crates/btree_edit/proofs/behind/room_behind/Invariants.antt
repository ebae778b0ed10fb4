-- The edge stands on the way down.
use Rattle.btree_edit.proofs.BehindLaws.{IsOnWay}
use Rattle.btree_edit.proofs.behind.room_behind.Given as goal

abbrev pub invariant-loop-height : goal.invariant-loop-height
invariant-loop-height l = IsOnWay l.root l.height l.edge

abbrev pub decreases-loop-height : goal.decreases-loop-height
decreases-loop-height l = l.height
