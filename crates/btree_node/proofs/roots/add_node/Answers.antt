-- What the proof of `add_node` needs beyond the search.
use Rattle.std.proofs.Common.{arith}
use Rattle.node_edges.proofs.WayLaws.{tree-down}
use Rattle.pool_rule.proofs.Trades.{Stands-held, HasHolds-first, HasHolds-second}
use Rattle.btree_node.proofs.MadeLaws.{made-finished, tree-short}
use Rattle.btree_node.proofs.roots.add_node.Goals as goal

pub with_node-requires-clause-stands : goal.with_node-requires-clause-stands
with_node-requires-clause-stands g c = Stands-held _ _ (HasHolds-first _ _ _ c.requires.held)

pub with_node-requires-clause-node_stands : goal.with_node-requires-clause-node_stands
with_node-requires-clause-node_stands g c = Stands-held _ _ (HasHolds-second _ _ _ c.requires.held)

pub finish-requires-clause-held : goal.finish-requires-clause-held
finish-requires-clause-held g c = record { weighs = λ f. omega (arith, (HasHolds-first _ _ _ c.requires.held).weighs f, c.in-Ok.ensures.made.traded.weighs f) }

pub finish-requires-clause-short : goal.finish-requires-clause-short
finish-requires-clause-short g c = tree-short c.args.root.now c.requires.tree c.requires.filled

pub finish-requires-clause-room : goal.finish-requires-clause-room
finish-requires-clause-room g c = omega (arith, c.in-Ok.ensures.made.traded.count, c.requires.room)

pub finish-requires-in-Ok-clause-held : goal.finish-requires-in-Ok-clause-held
finish-requires-in-Ok-clause-held g c = record { weighs = λ f. omega (arith, c.requires.held.weighs f, c.in-Ok.ensures.made.traded.weighs f, c.finish.ensures.traded.weighs f) }

pub finish-requires-in-Ok-clause-short : goal.finish-requires-in-Ok-clause-short
finish-requires-in-Ok-clause-short g c = omega (arith, tree-down _ c.args.node.now c.requires.node, c.requires.lower, c.requires.tree.low)

pub returns-in-Ok-clause-made : goal.returns-in-Ok-clause-made
returns-in-Ok-clause-made g c =
    made-finished c.args.w.now c.with_node.new.w c.finish.new.w c.finish-in-Ok.new.w c.args.root.now c.args.node.now c.in-Ok.made _ c.in-Ok.ensures.made c.finish.ensures.traded c.finish.ensures.finished c.finish-in-Ok.ensures.traded c.finish-in-Ok.ensures.finished
