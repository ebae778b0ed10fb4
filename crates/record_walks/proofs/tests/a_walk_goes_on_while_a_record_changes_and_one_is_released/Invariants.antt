-- The name of the test's pool.
use Rattle.node_pool.specs.Opened.{opened_table, opened_numbers, opened_passes, opened_workers, opened_boxes}
use Rattle.record_walks.proofs.tests.a_walk_goes_on_while_a_record_changes_and_one_is_released.Given as goal

abbrev pub ghosts-with_pool : goal.ghosts-with_pool
ghosts-with_pool g a = record { table = opened_table a.pool; size = opened_numbers a.pool; workers = opened_workers a.pool; limit = opened_passes a.pool; boxes = opened_boxes a.pool }
