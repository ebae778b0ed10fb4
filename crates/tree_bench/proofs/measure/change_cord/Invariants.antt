-- The name of the pool.
use Rattle.node_pool.specs.Opened.{opened_table, opened_numbers, opened_passes, opened_workers, opened_boxes}
use Rattle.tree_bench.proofs.measure.change_cord.Given as goal

abbrev pub ghosts-changed : goal.ghosts-changed
ghosts-changed g a = record { table = opened_table a.opened; size = opened_numbers a.opened; workers = opened_workers a.opened; limit = opened_passes a.opened; boxes = opened_boxes a.opened }
