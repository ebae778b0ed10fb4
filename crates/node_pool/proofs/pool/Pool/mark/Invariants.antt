-- The root, the path and the changes that `Pool::mark` is about.
use Rattle.node_pool.proofs.pool.Pool.mark.Given as goal

abbrev pub ghosts-mark_root : goal.ghosts-mark_root
ghosts-mark_root g a = record { root = a.root.now; path = a.path.now; changes = a.changes.now }
