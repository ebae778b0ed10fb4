-- The name of the test's pool.
use Rattle.node_pool.specs.Opened.{opened_table, opened_numbers, opened_passes, opened_workers, opened_boxes}
use Rattle.cord_query.proofs.tests.order_is_that_of_unsigned_bytes_in_any_shape.Given as goal

abbrev pub ghosts-order_of : goal.ghosts-order_of
ghosts-order_of g a = record { table = opened_table a.opened; size = opened_numbers a.opened; workers = opened_workers a.opened; limit = opened_passes a.opened; boxes = opened_boxes a.opened }
