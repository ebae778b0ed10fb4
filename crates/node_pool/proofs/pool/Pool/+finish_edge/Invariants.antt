-- What the loop of `Pool::finish_edge` keeps.
use Rattle.node_pool.proofs.Finishing.{IsPartway}
use Rattle.node_pool.proofs.pool.Pool.+finish_edge.Given as goal

abbrev pub invariant-loop-child : goal.invariant-loop-child
invariant-loop-child g l = IsPartway l.fn.edge l.edges l.child-index l.fn.w l.w

abbrev pub decreases-finish_edge : goal.decreases-finish_edge
decreases-finish_edge g l = goal.size-finish_edge g l
