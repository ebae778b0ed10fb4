-- The name of the test's pool.
use Rattle.node_pool.specs.Opened.{opened_table, opened_numbers, opened_passes, opened_workers, opened_boxes}
use Rattle.pool_tests.proofs.releasers.boxes_come_back_from_a_pool_that_starts_and_from_one_that_does_not.Given as goal

abbrev pub ghosts-named : goal.ghosts-named
ghosts-named g a = record { table = opened_table a.opened; size = opened_numbers a.opened; workers = opened_workers a.opened; limit = opened_passes a.opened; boxes = opened_boxes a.opened }
