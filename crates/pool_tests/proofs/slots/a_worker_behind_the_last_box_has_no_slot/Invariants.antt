-- The name of the test's pool.
use Rattle.node_pool.specs.Opened.{opened_table, opened_numbers, opened_passes, opened_workers, opened_boxes}
use Rattle.pool_tests.proofs.slots.a_worker_behind_the_last_box_has_no_slot.Given as goal

abbrev pub ghosts-last_slots : goal.ghosts-last_slots
ghosts-last_slots g a = record { table = opened_table a.opened; size = opened_numbers a.opened; workers = opened_workers a.opened; limit = opened_passes a.opened; boxes = opened_boxes a.opened }
