-- What the proof of `refused` needs beyond the search.
use Rattle.std.proofs.Common.{arith}
use Rattle.pool_rule.proofs.Trades.{Stands-held}
use Rattle.btree_cut.proofs.tests.refused.Goals as goal

pub sub_tree-requires-clause-stands : goal.sub_tree-requires-clause-stands
sub_tree-requires-clause-stands g c = Stands-held c.seven_flats.new.w.holds c.in_ok-root.root (record { weighs = λ f. omega (arith, c.in_ok-root.ensures.held.weighs f) })
