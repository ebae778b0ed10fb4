-- The name of the test's pool.
use Rattle.node_pool.specs.Opened.{opened_table, opened_numbers, opened_passes, opened_workers, opened_boxes}
use Rattle.cord_value.proofs.tests.cords_take_a_number_for_each_node_and_one_too_few_is_told.Given as goal

abbrev pub ghosts-seen_of : goal.ghosts-seen_of
ghosts-seen_of g a = record { table = opened_table a.opened; size = opened_numbers a.opened; workers = opened_workers a.opened; limit = opened_passes a.opened; boxes = opened_boxes a.opened }
