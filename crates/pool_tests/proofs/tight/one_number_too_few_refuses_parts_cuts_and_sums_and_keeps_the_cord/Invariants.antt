-- The name of the test's pool.
use Rattle.node_pool.specs.Opened.{opened_table, opened_numbers, opened_passes, opened_workers, opened_boxes}
use Rattle.pool_tests.proofs.tight.one_number_too_few_refuses_parts_cuts_and_sums_and_keeps_the_cord.Given as goal

abbrev pub ghosts-tried : goal.ghosts-tried
ghosts-tried g a = record { table = opened_table a.opened; size = opened_numbers a.opened; workers = opened_workers a.opened; limit = opened_passes a.opened; boxes = opened_boxes a.opened }
