-- The name of the test's pool.
use Rattle.node_pool.specs.Opened.{opened_table, opened_numbers, opened_passes, opened_workers, opened_boxes}
use Rattle.pool_tests.proofs.queries.questions_to_generated_cords_of_parts_sums_and_externals_agree.Given as goal

abbrev pub ghosts-seed_agrees : goal.ghosts-seed_agrees
ghosts-seed_agrees g a = record { table = opened_table a.opened; size = opened_numbers a.opened; workers = opened_workers a.opened; limit = opened_passes a.opened; boxes = opened_boxes a.opened }
