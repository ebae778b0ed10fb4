-- The name of the test's pool.
use Rattle.node_pool.specs.Opened.{opened_table, opened_numbers, opened_passes, opened_workers, opened_boxes}
use Rattle.cord_value.proofs.tests.path_leads_to_the_seventh_flat.Given as goal

abbrev pub ghosts-read_behind_six_flats : goal.ghosts-read_behind_six_flats
ghosts-read_behind_six_flats g a = record { table = opened_table a.opened; size = opened_numbers a.opened; workers = opened_workers a.opened; limit = opened_passes a.opened; boxes = opened_boxes a.opened }
