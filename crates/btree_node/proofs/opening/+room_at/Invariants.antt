-- Each call goes one level down.
use Rattle.btree_node.proofs.opening.+room_at.Given as goal

abbrev pub decreases-room_at : goal.decreases-room_at
decreases-room_at l = l.level
