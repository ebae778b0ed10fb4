-- The name of the test's pool.
use Rattle.node_pool.specs.Opened.{opened_table, opened_numbers, opened_passes, opened_workers, opened_boxes}
use Rattle.pool_tests.proofs.ranges.each_range_that_begins_and_ends_at_or_beside_a_border_has_its_bytes.Given as goal

abbrev pub ghosts-agreed : goal.ghosts-agreed
ghosts-agreed g a = record { table = opened_table a.opened; size = opened_numbers a.opened; workers = opened_workers a.opened; limit = opened_passes a.opened; boxes = opened_boxes a.opened }
