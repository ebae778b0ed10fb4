-- Each call goes one level down.
use Rattle.btree_cut.proofs.lowest.+lowest.Given as goal

abbrev pub decreases-lowest : goal.decreases-lowest
decreases-lowest l = l.level
