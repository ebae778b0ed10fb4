-- What the proof of `ended` needs beyond the search.
use Rattle.btree_node.proofs.MadeLaws.{tree-short}
use Rattle.btree_cut.proofs.tests.ended.Goals as goal

pub finish-requires-clause-short : goal.finish-requires-clause-short
finish-requires-clause-short g c = tree-short c.cut_down.new.root c.in_ok-left.ensures.tree c.in_ok-left.ensures.filled
