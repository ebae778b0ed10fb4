-- The name of the test's pool.
use Rattle.node_pool.specs.Opened.{opened_table, opened_numbers, opened_passes, opened_workers, opened_boxes}
use Rattle.pool_tests.proofs.trees.a_lone_flat_of_20_bytes_is_filled_to_51_under_its_number.Given as goal

abbrev pub ghosts-filled_alone : goal.ghosts-filled_alone
ghosts-filled_alone g a = record { table = opened_table a.opened; size = opened_numbers a.opened; workers = opened_workers a.opened; limit = opened_passes a.opened; boxes = opened_boxes a.opened }
