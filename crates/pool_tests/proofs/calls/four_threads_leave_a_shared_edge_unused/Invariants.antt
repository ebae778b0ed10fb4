-- The name of the test's pool.
use Rattle.node_pool.specs.Opened.{opened_table, opened_numbers, opened_passes, opened_workers, opened_boxes}
use Rattle.pool_tests.proofs.calls.four_threads_leave_a_shared_edge_unused.Given as goal

abbrev pub ghosts-shared_by_four : goal.ghosts-shared_by_four
ghosts-shared_by_four g a = record { table = opened_table a.opened; size = opened_numbers a.opened; workers = opened_workers a.opened; limit = opened_passes a.opened; boxes = opened_boxes a.opened }
