-- The node that `Pool::leave` is about.
use Rattle.node_pool.proofs.pool.Pool.leave.Given as goal

abbrev pub ghosts-leave_word : goal.ghosts-leave_word
ghosts-leave_word g a = record { node = a.edge.now }
