-- The name of the test's pool.
use Rattle.node_pool.specs.Opened.{opened_table, opened_numbers, opened_passes, opened_workers, opened_boxes}
use Rattle.btree_cut.proofs.tests.ranges_have_their_bytes_and_leave_no_number_in_use.Given as goal

abbrev pub ghosts-ended : goal.ghosts-ended
ghosts-ended g a = record { table = opened_table a.opened; size = opened_numbers a.opened; workers = opened_workers a.opened; limit = opened_passes a.opened; boxes = opened_boxes a.opened }
