-- The name of the test's pool.
use Rattle.node_pool.specs.Opened.{opened_table, opened_numbers, opened_passes, opened_workers, opened_boxes}
use Rattle.pool_tests.proofs.flats.a_third_flat_finds_both_numbers_in_use.Given as goal

abbrev pub ghosts-refusal : goal.ghosts-refusal
ghosts-refusal g a = record { table = opened_table a.opened; size = opened_numbers a.opened; workers = opened_workers a.opened; limit = opened_passes a.opened; boxes = opened_boxes a.opened }
