-- The name of the test's pool.
use Rattle.node_pool.specs.Opened.{opened_table, opened_numbers, opened_passes, opened_workers, opened_boxes}
use Rattle.pool_tests.proofs.releasers.the_box_of_an_external_is_called_when_the_last_cord_over_it_has_gone.Given as goal

abbrev pub ghosts-called : goal.ghosts-called
ghosts-called g a = record { table = opened_table a.opened; size = opened_numbers a.opened; workers = opened_workers a.opened; limit = opened_passes a.opened; boxes = opened_boxes a.opened }
