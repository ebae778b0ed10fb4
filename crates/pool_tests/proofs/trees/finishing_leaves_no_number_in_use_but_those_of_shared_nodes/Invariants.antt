-- The name of the test's pool.
use Rattle.node_pool.specs.Opened.{opened_table, opened_numbers, opened_passes, opened_workers, opened_boxes}
use Rattle.pool_tests.proofs.trees.finishing_leaves_no_number_in_use_but_those_of_shared_nodes.Given as goal

abbrev pub ghosts-both_finished : goal.ghosts-both_finished
ghosts-both_finished g a = record { table = opened_table a.opened; size = opened_numbers a.opened; workers = opened_workers a.opened; limit = opened_passes a.opened; boxes = opened_boxes a.opened }
