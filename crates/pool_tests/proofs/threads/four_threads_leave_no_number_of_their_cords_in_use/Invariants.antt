-- The name of the test's pool.
use Rattle.node_pool.specs.Opened.{opened_table, opened_numbers, opened_passes, opened_workers, opened_boxes}
use Rattle.pool_tests.proofs.threads.four_threads_leave_no_number_of_their_cords_in_use.Given as goal

abbrev pub ghosts-worked_by_four : goal.ghosts-worked_by_four
ghosts-worked_by_four g a = record { table = opened_table a.opened; size = opened_numbers a.opened; workers = opened_workers a.opened; limit = opened_passes a.opened; boxes = opened_boxes a.opened }
