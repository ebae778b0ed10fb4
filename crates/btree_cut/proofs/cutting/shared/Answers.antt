-- What the proof of `shared` needs beyond the search.
use Rattle.std.proofs.Common.{ap, length}
use Rattle.pool_rule.specs.Views.{View}
use Rattle.btree_node.proofs.GainLaws.{gained-shared}
use Rattle.btree_node.proofs.MadeLaws.{made-same, refused-memory}
use Rattle.btree_cut.proofs.cutting.shared.Goals as goal

pub returns-in_default-clause-refused : goal.returns-in_default-clause-refused
returns-in_default-clause-refused g c = refused-memory g.P.Naming.size c.args.w.now

pub returns-clause-made : goal.returns-clause-made
returns-clause-made g c =
    made-same c.args.tree.now c.in-Ok.again c.args.w.now c.share.new.w c.in-Ok.ensures (ap (λ (v : View). length v.taken) c.share.ensures.shared)
    (gained-shared c.args.tree.now c.args.w.now c.share.new.w c.share.ensures.shared) c.share.ensures.traded
