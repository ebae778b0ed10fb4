-- The node that `Pool::share` is about.
use Rattle.node_pool.proofs.pool.Pool.share.Given as goal

abbrev pub ghosts-share_word : goal.ghosts-share_word
ghosts-share_word g a = record { node = a.edge.now }
