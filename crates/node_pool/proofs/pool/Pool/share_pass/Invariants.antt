-- The node that `Pool::share_pass` is about.
use Rattle.node_pool.proofs.pool.Pool.share_pass.Given as goal

abbrev pub ghosts-share_node : goal.ghosts-share_node
ghosts-share_node g a = record { node = a.edge.now }
