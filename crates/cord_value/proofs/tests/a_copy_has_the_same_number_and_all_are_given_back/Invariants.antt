-- The name of the test's pool.
use Rattle.node_pool.specs.Opened.{opened_table, opened_numbers, opened_passes, opened_workers, opened_boxes}
use Rattle.cord_value.proofs.tests.a_copy_has_the_same_number_and_all_are_given_back.Given as goal

abbrev pub ghosts-all_copied : goal.ghosts-all_copied
ghosts-all_copied g a = record { table = opened_table a.opened; size = opened_numbers a.opened; workers = opened_workers a.opened; limit = opened_passes a.opened; boxes = opened_boxes a.opened }
