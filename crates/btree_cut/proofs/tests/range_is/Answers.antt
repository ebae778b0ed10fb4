-- What the proof of `range_is` needs beyond the search.
use Rattle.pool_rule.proofs.Trades.{Stands-held}
use Rattle.btree_node.proofs.MadeLaws.{tree-short}
use Rattle.btree_cut.proofs.tests.range_is.Goals as goal

pub sub_tree-requires-clause-stands : goal.sub_tree-requires-clause-stands
sub_tree-requires-clause-stands g c = Stands-held c.args.w.now.holds c.args.tree.now c.requires.held

pub finish-requires-clause-short : goal.finish-requires-clause-short
finish-requires-clause-short g c = tree-short c.in-Ok.range c.in-Ok.ensures.tree c.in-Ok.ensures.filled
