-- The name of the pool.
use Rattle.node_pool.specs.Opened.{opened_table, opened_numbers, opened_passes, opened_workers, opened_boxes}
use Rattle.desk_tests.proofs.games.game.Given as goal

abbrev pub ghosts-at_pool : goal.ghosts-at_pool
ghosts-at_pool g a = record { table = opened_table a.opened; size = opened_numbers a.opened; workers = opened_workers a.opened; limit = opened_passes a.opened; boxes = opened_boxes a.opened }
