-- What the proof of `merge_trees` needs beyond the search.
use Rattle.std.proofs.Common.{[], ◌∷◌, ◌≤◌, refl, subst, ◌∙◌, arith}
use Rattle.pool_rule.proofs.Trades.{Stands-held, HasHolds-first, HasHolds-second}
use Rattle.btree_node.proofs.MadeLaws.{made-finished, tree-short}
use Rattle.btree_merge.proofs.merging.merge_trees.Goals as goal

pub merged-requires-clause-stands : goal.merged-requires-clause-stands
merged-requires-clause-stands g c = Stands-held _ _ (HasHolds-first _ _ _ c.requires.held)

pub merged-requires-clause-other_stands : goal.merged-requires-clause-other_stands
merged-requires-clause-other_stands g c = Stands-held _ _ (HasHolds-second _ _ _ c.requires.held)

pub finish-requires-clause-held : goal.finish-requires-clause-held
finish-requires-clause-held g c = record { weighs = λ f. omega (arith, (HasHolds-first _ _ _ c.requires.held).weighs f, c.in-Ok.ensures.made.traded.weighs f) }

pub finish-requires-clause-short : goal.finish-requires-clause-short
finish-requires-clause-short g c = tree-short c.args.root.now c.requires.tree c.requires.filled

pub finish-requires-clause-room : goal.finish-requires-clause-room
finish-requires-clause-room g c = omega (arith, c.in-Ok.ensures.made.traded.count, c.requires.room)

pub finish-requires-in-Ok-clause-held : goal.finish-requires-in-Ok-clause-held
finish-requires-in-Ok-clause-held g c = record { weighs = λ f. omega (arith, c.requires.held.weighs f, c.in-Ok.ensures.made.traded.weighs f, c.finish.ensures.traded.weighs f) }

pub finish-requires-in-Ok-clause-short : goal.finish-requires-in-Ok-clause-short
finish-requires-in-Ok-clause-short g c = tree-short c.args.other.now c.requires.other c.requires.other_filled

pub returns-in-Ok-clause-made : goal.returns-in-Ok-clause-made
returns-in-Ok-clause-made g c =
    made-finished c.args.w.now c.merged.new.w c.finish.new.w c.finish-in-Ok.new.w c.args.root.now c.args.other.now c.in-Ok.made _ c.in-Ok.ensures.made c.finish.ensures.traded c.finish.ensures.finished c.finish-in-Ok.ensures.traded c.finish-in-Ok.ensures.finished
