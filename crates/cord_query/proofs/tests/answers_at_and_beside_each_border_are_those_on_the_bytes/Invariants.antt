-- The name of the test's pool.
use Rattle.node_pool.specs.Opened.{opened_table, opened_numbers, opened_passes, opened_workers, opened_boxes}
use Rattle.cord_query.proofs.tests.answers_at_and_beside_each_border_are_those_on_the_bytes.Given as goal

abbrev pub ghosts-bordered : goal.ghosts-bordered
ghosts-bordered g a = record { table = opened_table a.opened; size = opened_numbers a.opened; workers = opened_workers a.opened; limit = opened_passes a.opened; boxes = opened_boxes a.opened }
