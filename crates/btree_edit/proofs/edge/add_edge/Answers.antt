-- What the proof of `add_edge` needs beyond the search.
use Rattle.std.proofs.Common.{ℕ, sym, subst, ◌∙◌, arith}
use Rattle.node_edges.specs.Trees.{IsTreeAt}
use Rattle.node_edges.proofs.WayLaws.{tree-down}
use Rattle.pool_rule.proofs.Trades.{Stands-held, HasHolds-first, HasHolds-second}
use Rattle.std.specs.Prelude.{◌==◌, nat_lt}
use Rattle.btree_edit.specs.Outcomes.{outcome_by}
use Rattle.btree_node.proofs.MadeLaws.{made-finished, tree-short}
use Rattle.btree_edit.proofs.edge.add_edge.Goals as goal

pub with_node-requires-clause-stands : goal.with_node-requires-clause-stands
with_node-requires-clause-stands g c = Stands-held _ _ (HasHolds-first _ _ _ c.requires.held)

pub with_node-requires-clause-node_stands : goal.with_node-requires-clause-node_stands
with_node-requires-clause-node_stands g c = Stands-held _ _ (HasHolds-second _ _ _ c.requires.held)

pub finish-requires-clause-held : goal.finish-requires-clause-held
finish-requires-clause-held g c = record { weighs = λ f. omega (arith, (HasHolds-first _ _ _ c.requires.held).weighs f, c.in-Ok.ensures.made.traded.weighs f) }

pub finish-requires-clause-short : goal.finish-requires-clause-short
finish-requires-clause-short g c = tree-short c.args.root.now c.requires.tree c.requires.filled

pub finish-requires-clause-room : goal.finish-requires-clause-room
finish-requires-clause-room g c = omega (arith, c.in-Ok.ensures.made.traded.count, c.requires.room)

pub finish-requires-in-Ok-clause-held : goal.finish-requires-in-Ok-clause-held
finish-requires-in-Ok-clause-held g c = record { weighs = λ f. omega (arith, c.requires.held.weighs f, c.in-Ok.ensures.made.traded.weighs f, c.finish.ensures.traded.weighs f) }

pub finish-requires-in-Ok-clause-short : goal.finish-requires-in-Ok-clause-short
finish-requires-in-Ok-clause-short g c = omega (arith, tree-down 0 c.args.edge.now c.requires.edge)

pub returns-in-Ok-clause-made : goal.returns-in-Ok-clause-made
returns-in-Ok-clause-made g c =
    made-finished c.args.w.now c.with_node.new.w c.finish.new.w c.finish-in-Ok.new.w c.args.root.now c.args.edge.now c.in-Ok.made _ c.in-Ok.ensures.made c.finish.ensures.traded c.finish.ensures.finished c.finish-in-Ok.ensures.traded c.finish-in-Ok.ensures.finished

pub with_node-requires-clause-node : goal.with_node-requires-clause-node
with_node-requires-clause-node g c = subst (λ (k : ℕ). IsTreeAt k c.args.edge.now) (sym c.requires.edge.at) c.requires.edge

pub with_node-requires-clause-no_higher : goal.with_node-requires-clause-no_higher
with_node-requires-clause-no_higher g c = omega (arith, c.requires.edge.at)

pub returns-in-Ok-clause-outcome : goal.returns-in-Ok-clause-outcome
returns-in-Ok-clause-outcome g c =
    c.outcome_by-outcome.ensures ∙ (λ i. outcome_by (nat_lt (c.level_of.ensures i) (c.level_of-in-Ok.ensures i)) (c.number.ensures i == c.number-in-Ok.ensures i))
