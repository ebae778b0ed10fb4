-- The name of the test's pool.
use Rattle.node_pool.specs.Opened.{opened_table, opened_numbers, opened_passes, opened_workers, opened_boxes}
use Rattle.pool_tests.proofs.marks.edges_come_beside_a_path_whose_numbers_stay.Given as goal

abbrev pub ghosts-all_grown : goal.ghosts-all_grown
ghosts-all_grown g a = record { table = opened_table a.opened; size = opened_numbers a.opened; workers = opened_workers a.opened; limit = opened_passes a.opened; boxes = opened_boxes a.opened }
