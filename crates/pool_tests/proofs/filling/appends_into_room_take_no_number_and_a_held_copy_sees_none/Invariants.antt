-- The name of the test's pool.
use Rattle.node_pool.specs.Opened.{opened_table, opened_numbers, opened_passes, opened_workers, opened_boxes}
use Rattle.pool_tests.proofs.filling.appends_into_room_take_no_number_and_a_held_copy_sees_none.Given as goal

abbrev pub ghosts-outcomes_of : goal.ghosts-outcomes_of
ghosts-outcomes_of g a = record { table = opened_table a.opened; size = opened_numbers a.opened; workers = opened_workers a.opened; limit = opened_passes a.opened; boxes = opened_boxes a.opened }
