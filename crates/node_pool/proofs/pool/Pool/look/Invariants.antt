-- How far down the path the edge is.
use Rattle.node_pool.proofs.Walks.{IsAt}
use Rattle.node_pool.proofs.pool.Pool.look.Given as goal

abbrev pub ghosts-look_word : goal.ghosts-look_word
ghosts-look_word g a = record { node = a.edge.now }

abbrev pub invariant-loop-i : goal.invariant-loop-i
invariant-loop-i g l = IsAt l.fn.w l.fn.root l.fn.path l.edge l.i
