-- The name of the test's pool.
use Rattle.node_pool.specs.Opened.{opened_table, opened_numbers, opened_passes, opened_workers, opened_boxes}
use Rattle.cord_query.proofs.tests.a_sink_gets_all_bytes_or_a_beginning_of_them.Given as goal

abbrev pub ghosts-written : goal.ghosts-written
ghosts-written g a = record { table = opened_table a.opened; size = opened_numbers a.opened; workers = opened_workers a.opened; limit = opened_passes a.opened; boxes = opened_boxes a.opened }
