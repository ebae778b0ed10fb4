-- The name of the test's pool.
use Rattle.node_pool.specs.Opened.{opened_table, opened_numbers, opened_passes, opened_workers, opened_boxes}
use Rattle.pool_tests.proofs.marks.the_number_of_an_exchanged_edge_is_free_once_it_is_left.Given as goal

abbrev pub ghosts-all_swapped : goal.ghosts-all_swapped
ghosts-all_swapped g a = record { table = opened_table a.opened; size = opened_numbers a.opened; workers = opened_workers a.opened; limit = opened_passes a.opened; boxes = opened_boxes a.opened }
