-- What the proof of `wrapped` needs beyond the search.
use Rattle.std.proofs.Common.{List, [], ◌∷◌, ◌+◌, length, sym, ap, subst, arith}
use Rattle.node_forest.specs.Label.{Node}
use Rattle.node_edges.specs.Body.{IsBranchOf}
use Rattle.node_edges.specs.Trees.{IsTreeAt}
use Rattle.node_edges.proofs.WayLaws.{tree-down}
use Rattle.pool_rule.specs.Trades.{HasHolds}
use Rattle.pool_rule.specs.Views.{View}
use Rattle.btree_node.specs.Made.{IsMadeFrom}
use Rattle.btree_node.proofs.GainLaws.{gained-shared}
use Rattle.btree_node.proofs.GrowLaws.{wrapped-none, wrapped-more, length-over}
use Rattle.btree_node.proofs.ListLaws.{All-one}
use Rattle.btree_node.proofs.MadeLaws.{made-same, made-over, refused-memory, refused-over}
use Rattle.btree_node.proofs.adding.wrapped.Goals as goal

pub returns-in_default-clause-refused : goal.returns-in_default-clause-refused
returns-in_default-clause-refused g c = refused-memory g.P.Naming.size c.args.w.now

pub loop-i-init : goal.loop-i-init
loop-i-init g c = record {
  tree = wrapped-none c.args.level c.args.node.now c.in-Ok.top c.in-Ok.ensures c.requires.node;
  made = made-same c.args.node.now c.in-Ok.top c.args.w.now c.share.new.w c.in-Ok.ensures (ap (λ (v : View). length v.taken) c.share.ensures.shared) (gained-shared c.args.node.now c.args.w.now c.share.new.w c.share.ensures.shared) c.share.ensures.traded;
}

pub new_branch-requires-clause-held : goal.new_branch-requires-clause-held
new_branch-requires-clause-held g c =
    subst (λ (es : List Node). HasHolds c.loop-i.w.holds es) (sym c.from_ref.ensures.value) (record { weighs = λ f. omega (arith, c.loop-i.invariant.made.traded.weighs f) })

pub new_branch-requires-clause-trees : goal.new_branch-requires-clause-trees
new_branch-requires-clause-trees g c = rw c.from_ref.ensures.value (All-one (IsTreeAt (c.args.level + c.loop-i.i)) c.loop-i.top c.loop-i.invariant.tree.tree)

pub new_branch-requires-clause-small : goal.new_branch-requires-clause-small
new_branch-requires-clause-small g c =
    rw c.from_ref.ensures.value (omega (arith, c.requires.short, length-over c.args.level (c.args.level + c.loop-i.i) _ c.args.node.now c.loop-i.top c.requires.node c.loop-i.invariant.tree))

pub new_branch-requires-clause-room : goal.new_branch-requires-clause-room
new_branch-requires-clause-room g c = omega (arith, c.loop-i.invariant.made.traded.count, c.requires.room)

pub loop-i-preserved : goal.loop-i-preserved
loop-i-preserved g c = record {
  tree = wrapped-more c.args.level c.loop-i.i c.args.node.now c.loop-i.top c.in-Ok-new_branch.above c.requires.node c.loop-i.invariant.tree (subst (λ (es : List Node). IsBranchOf (c.args.level + c.loop-i.i) es c.in-Ok-new_branch.above) c.from_ref.ensures.value c.in-Ok-new_branch.ensures.branch);
  made = made-over c.args.w.now c.loop-i.w c.new_branch.new.w (c.args.node.now ∷ []) c.loop-i.top c.in-Ok-new_branch.above c.loop-i.invariant.made (subst (λ (es : List Node). IsMadeFrom es es c.loop-i.w c.new_branch.new.w c.in-Ok-new_branch.above) c.from_ref.ensures.value c.in-Ok-new_branch.ensures.made);
}

pub finish-requires-clause-held : goal.finish-requires-clause-held
finish-requires-clause-held g c = record { weighs = λ f. omega (arith, c.loop-i.invariant.made.traded.weighs f, c.in-Err.ensures.refused.traded.weighs f) }

pub finish-requires-clause-short : goal.finish-requires-clause-short
finish-requires-clause-short g c = omega (arith, tree-down (c.args.level + c.loop-i.i) c.loop-i.top c.loop-i.invariant.tree.tree, c.requires.low, c.loop-i-test.true)

pub finish-requires-clause-room : goal.finish-requires-clause-room
finish-requires-clause-room g c = omega (arith, c.loop-i.invariant.made.traded.count, c.in-Err.ensures.refused.traded.count, c.requires.room)

pub returns-in-Err-clause-refused : goal.returns-in-Err-clause-refused
returns-in-Err-clause-refused g c =
    refused-over g.P.Naming.size c.in-Err.error c.args.w.now c.loop-i.w c.new_branch.new.w c.finish.new.w (c.args.node.now ∷ []) c.loop-i.top c.loop-i.invariant.made c.in-Err.ensures.refused c.finish.ensures.traded c.finish.ensures.finished
