-- The name of the test's pool.
use Rattle.node_pool.specs.Opened.{opened_table, opened_numbers, opened_passes, opened_workers, opened_boxes}
use Rattle.btree_cut.proofs.tests.a_range_of_five_new_nodes_is_refused_where_four_numbers_are_free.Given as goal

abbrev pub ghosts-refused : goal.ghosts-refused
ghosts-refused g a = record { table = opened_table a.opened; size = opened_numbers a.opened; workers = opened_workers a.opened; limit = opened_passes a.opened; boxes = opened_boxes a.opened }
