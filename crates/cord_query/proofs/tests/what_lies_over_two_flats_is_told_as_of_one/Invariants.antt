-- The name of the test's pool.
use Rattle.node_pool.specs.Opened.{opened_table, opened_numbers, opened_passes, opened_workers, opened_boxes}
use Rattle.cord_query.proofs.tests.what_lies_over_two_flats_is_told_as_of_one.Given as goal

abbrev pub ghosts-told : goal.ghosts-told
ghosts-told g a = record { table = opened_table a.opened; size = opened_numbers a.opened; workers = opened_workers a.opened; limit = opened_passes a.opened; boxes = opened_boxes a.opened }
