-- The name of the test's pool.
use Rattle.node_pool.specs.Opened.{opened_table, opened_numbers, opened_passes, opened_workers, opened_boxes}
use Rattle.pool_tests.proofs.changes.a_sum_on_few_bytes_stays_exactly_where_no_byte_comes_or_goes.Given as goal

abbrev pub ghosts-summed_and_changed : goal.ghosts-summed_and_changed
ghosts-summed_and_changed g a = record { table = opened_table a.opened; size = opened_numbers a.opened; workers = opened_workers a.opened; limit = opened_passes a.opened; boxes = opened_boxes a.opened }
