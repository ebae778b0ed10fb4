-- The name of the test's pool.
use Rattle.node_pool.specs.Opened.{opened_table, opened_numbers, opened_passes, opened_workers, opened_boxes}
use Rattle.pool_tests.proofs.refusals.a_third_cord_finds_both_numbers_in_use_until_one_is_released.Given as goal

abbrev pub ghosts-all_refused : goal.ghosts-all_refused
ghosts-all_refused g a = record { table = opened_table a.opened; size = opened_numbers a.opened; workers = opened_workers a.opened; limit = opened_passes a.opened; boxes = opened_boxes a.opened }
