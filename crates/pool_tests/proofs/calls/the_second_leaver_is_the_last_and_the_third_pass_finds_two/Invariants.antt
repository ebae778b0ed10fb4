-- The name of the test's pool.
use Rattle.node_pool.specs.Opened.{opened_table, opened_numbers, opened_passes, opened_workers, opened_boxes}
use Rattle.pool_tests.proofs.calls.the_second_leaver_is_the_last_and_the_third_pass_finds_two.Given as goal

abbrev pub ghosts-worked : goal.ghosts-worked
ghosts-worked g a = record { table = opened_table a.opened; size = opened_numbers a.opened; workers = opened_workers a.opened; limit = opened_passes a.opened; boxes = opened_boxes a.opened }
