-- What the proof of `ranges_are` needs beyond the search.
use Rattle.std.proofs.Common.{arith}
use Rattle.pool_rule.proofs.Trades.{Stands-held}
use Rattle.btree_node.proofs.MadeLaws.{tree-short}
use Rattle.btree_cut.proofs.tests.ranges_are.Goals as goal

pub sub_tree-requires-clause-stands : goal.sub_tree-requires-clause-stands
sub_tree-requires-clause-stands g c = Stands-held c.range_is.new.w.holds c.args.tree.now (record { weighs = λ f. omega (arith, c.requires.held.weighs f, c.in_ok-outer.ensures.same.weighs f) })

pub finish-requires-clause-short : goal.finish-requires-clause-short
finish-requires-clause-short g c = tree-short c.in-Ok.range c.in-Ok.ensures.tree c.in-Ok.ensures.filled
