-- The name of the test's pool.
use Rattle.node_pool.specs.Opened.{opened_table, opened_numbers, opened_passes, opened_workers, opened_boxes}
use Rattle.cord_query.proofs.tests.generated_cords_and_needles_agree_with_their_bytes.Given as goal

abbrev pub ghosts-generated_agree : goal.ghosts-generated_agree
ghosts-generated_agree g a = record { table = opened_table a.opened; size = opened_numbers a.opened; workers = opened_workers a.opened; limit = opened_passes a.opened; boxes = opened_boxes a.opened }
