-- A share of a tree.
use Rattle.btree_node.proofs.MadeLaws.{refused-memory}
use Rattle.cord_value.proofs.JoinLaws.{made-shared}
use Rattle.cord_value.proofs.sharing.shared.Goals as goal

pub returns-in_default-clause-refused : goal.returns-in_default-clause-refused
returns-in_default-clause-refused g c = refused-memory g.P.Naming.size c.args.w.now

pub returns-clause-made : goal.returns-clause-made
returns-clause-made g c = made-shared c.args.tree.now c.in-Ok.root c.args.w.now c.share.new.w c.in-Ok.ensures c.share.ensures.shared c.share.ensures.traded
