-- The name of the test's pool.
use Rattle.node_pool.specs.Opened.{opened_table, opened_numbers, opened_passes, opened_workers, opened_boxes}
use Rattle.pool_tests.proofs.shapes.ranges_share_whole_edges_and_cut_the_outer_ones.Given as goal

abbrev pub ghosts-shaped : goal.ghosts-shaped
ghosts-shaped g a = record { table = opened_table a.opened; size = opened_numbers a.opened; workers = opened_workers a.opened; limit = opened_passes a.opened; boxes = opened_boxes a.opened }
