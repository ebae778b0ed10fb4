-- The node that `Pool::fill` is about.
use Rattle.node_pool.proofs.pool.Pool.fill.Given as goal

abbrev pub ghosts-hand : goal.ghosts-hand
ghosts-hand g a = record { node = a.edge.now }
