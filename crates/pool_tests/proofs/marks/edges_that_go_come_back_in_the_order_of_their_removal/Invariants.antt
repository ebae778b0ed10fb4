-- The name of the test's pool.
use Rattle.node_pool.specs.Opened.{opened_table, opened_numbers, opened_passes, opened_workers, opened_boxes}
use Rattle.pool_tests.proofs.marks.edges_that_go_come_back_in_the_order_of_their_removal.Given as goal

abbrev pub ghosts-all_dropped : goal.ghosts-all_dropped
ghosts-all_dropped g a = record { table = opened_table a.opened; size = opened_numbers a.opened; workers = opened_workers a.opened; limit = opened_passes a.opened; boxes = opened_boxes a.opened }
