-- The name of the test's pool.
use Rattle.node_pool.specs.Opened.{opened_table, opened_numbers, opened_passes, opened_workers, opened_boxes}
use Rattle.pool_tests.proofs.flats.a_flat_has_the_room_that_its_capacity_leaves.Given as goal

abbrev pub ghosts-seen_of : goal.ghosts-seen_of
ghosts-seen_of g a = record { table = opened_table a.opened; size = opened_numbers a.opened; workers = opened_workers a.opened; limit = opened_passes a.opened; boxes = opened_boxes a.opened }
