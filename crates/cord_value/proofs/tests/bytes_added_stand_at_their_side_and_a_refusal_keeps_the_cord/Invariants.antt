-- The name of the test's pool.
use Rattle.node_pool.specs.Opened.{opened_table, opened_numbers, opened_passes, opened_workers, opened_boxes}
use Rattle.cord_value.proofs.tests.bytes_added_stand_at_their_side_and_a_refusal_keeps_the_cord.Given as goal

abbrev pub ghosts-seen_of : goal.ghosts-seen_of
ghosts-seen_of g a = record { table = opened_table a.opened; size = opened_numbers a.opened; workers = opened_workers a.opened; limit = opened_passes a.opened; boxes = opened_boxes a.opened }
