-- The name of the test's pool.
use Rattle.node_pool.specs.Opened.{opened_table, opened_numbers, opened_passes, opened_workers, opened_boxes}
use Rattle.pool_tests.proofs.slots.each_slot_is_used_once_and_then_none_is_left.Given as goal

abbrev pub ghosts-used_up : goal.ghosts-used_up
ghosts-used_up g a = record { table = opened_table a.opened; size = opened_numbers a.opened; workers = opened_workers a.opened; limit = opened_passes a.opened; boxes = opened_boxes a.opened }
