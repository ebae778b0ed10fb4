-- Each call goes one level down.
use Rattle.btree_node.proofs.adding.+grown.Given as goal

abbrev pub decreases-grown : goal.decreases-grown
decreases-grown g l = l.steps
