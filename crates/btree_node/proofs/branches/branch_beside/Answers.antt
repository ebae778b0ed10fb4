-- What the proof of `branch_beside` needs beyond the search.
use Rattle.std.proofs.Common.{List, [], length, sum_by, refl, sym, ap, subst, ◌∙◌, arith}
use Rattle.std.specs.List.{All}
use Rattle.std.proofs.lemmas.List.Sums.{sum_by-append}
use Rattle.node_forest.specs.Label.{Node}
use Rattle.node_edges.specs.Body.{IsBranchOf}
use Rattle.node_edges.specs.Trees.{IsTreeAt}
use Rattle.pool_rule.specs.Trades.{HasHolds}
use Rattle.pool_rule.proofs.Trades.{trade}
use Rattle.btree_node.specs.Made.{IsMadeFrom}
use Rattle.btree_node.proofs.GainLaws.{gained-then, gained-none, gained-shared_all, gained-finished_all, took-none}
use Rattle.btree_node.proofs.ListLaws.{length-beside, sum-beside, All-beside}
use Rattle.btree_node.proofs.MadeLaws.{all-short, held-beside, stand-beside, made-beside, refused-then}
use Rattle.btree_node.proofs.branches.branch_beside.Goals as goal

pub finish_all-requires-clause-short : goal.finish_all-requires-clause-short
finish_all-requires-clause-short g c = all-short c.args.height c.args.own.now (omega (arith, c.requires.low)) c.requires.own_trees

pub returns-in_default-clause-refused : goal.returns-in_default-clause-refused
returns-in_default-clause-refused g c = record {
  traded = c.finish_all.ensures.traded;
  gained = gained-finished_all c.args.own.now c.args.w.now c.finish_all.new.w c.finish_all.ensures.finished;
  cause = tt;
  height = tt;
}

pub share_all-requires-clause-room : goal.share_all-requires-clause-room
share_all-requires-clause-room g c = omega (arith, c.requires.room, c.requires.few)

pub new_branch-requires-clause-held : goal.new_branch-requires-clause-held
new_branch-requires-clause-held g c =
    subst (λ (es : List Node). HasHolds c.share_all.new.w.holds es) (sym (c.deref.ensures.value ∙ c.in-Ok.ensures))
    (held-beside c.args.side c.args.w.now.holds c.share_all.new.w.holds c.args.shared.now c.args.own.now c.requires.held c.share_all.ensures.traded)

pub new_branch-requires-clause-trees : goal.new_branch-requires-clause-trees
new_branch-requires-clause-trees g c =
    subst (All (IsTreeAt c.args.height)) (sym (c.deref.ensures.value ∙ c.in-Ok.ensures))
    (All-beside c.args.side (IsTreeAt c.args.height) c.args.shared.now c.args.own.now c.requires.shared_trees c.requires.own_trees)

pub new_branch-requires-clause-some : goal.new_branch-requires-clause-some
new_branch-requires-clause-some g c = omega (arith, ap (λ (es : List Node). length es) (c.deref.ensures.value ∙ c.in-Ok.ensures), length-beside c.args.side c.args.shared.now c.args.own.now, c.requires.some)

pub new_branch-requires-clause-few : goal.new_branch-requires-clause-few
new_branch-requires-clause-few g c = omega (arith, ap (λ (es : List Node). length es) (c.deref.ensures.value ∙ c.in-Ok.ensures), length-beside c.args.side c.args.shared.now c.args.own.now, c.requires.few)

pub new_branch-requires-clause-small : goal.new_branch-requires-clause-small
new_branch-requires-clause-small g c =
    omega (arith, ap (sum_by (λ (e : Node). e.0.length)) (c.deref.ensures.value ∙ c.in-Ok.ensures), sum-beside c.args.side (λ (e : Node). e.0.length) c.args.shared.now c.args.own.now, c.requires.small)

pub new_branch-requires-clause-room : goal.new_branch-requires-clause-room
new_branch-requires-clause-room g c = omega (arith, c.share_all.ensures.traded.count, c.requires.room, c.requires.few)

pub returns-in-Ok-new_branch-clause-branch : goal.returns-in-Ok-new_branch-clause-branch
returns-in-Ok-new_branch-clause-branch g c =
    subst (λ (es : List Node). IsBranchOf c.args.height es c.in-Ok-new_branch.edge) (c.deref.ensures.value ∙ c.in-Ok.ensures) c.in-Ok-new_branch.ensures.branch

pub returns-in-Ok-new_branch-clause-made : goal.returns-in-Ok-new_branch-clause-made
returns-in-Ok-new_branch-clause-made g c =
    made-beside c.args.side c.args.w.now c.share_all.new.w c.new_branch.new.w c.args.shared.now c.args.own.now c.in-Ok-new_branch.edge c.share_all.ensures.traded
    (took-none _ c.args.w.now c.share_all.new.w c.share_all.ensures.gained refl) (gained-shared_all _ c.args.w.now c.share_all.new.w c.share_all.ensures.gained)
    (subst (λ (es : List Node). IsMadeFrom es es c.share_all.new.w c.new_branch.new.w c.in-Ok-new_branch.edge) (c.deref.ensures.value ∙ c.in-Ok.ensures) c.in-Ok-new_branch.ensures.made)

pub unshare_all-requires-clause-spare : goal.unshare_all-requires-clause-spare
unshare_all-requires-clause-spare g c =
    stand-beside c.args.w.now.holds c.share_all.new.w.holds c.new_branch.new.w.holds c.args.shared.now c.requires.stand c.share_all.ensures.traded c.in-Err.ensures.refused.traded

pub unshare_all-requires-clause-room : goal.unshare_all-requires-clause-room
unshare_all-requires-clause-room g c = omega (arith, c.share_all.ensures.traded.count, c.in-Err.ensures.refused.traded.count, c.requires.room, c.requires.few)

pub finish_all-requires-in-Err-clause-held : goal.finish_all-requires-in-Err-clause-held
finish_all-requires-in-Err-clause-held g c =
    record { weighs = λ f. omega (arith, c.requires.held.weighs f, c.share_all.ensures.traded.weighs f, c.in-Err.ensures.refused.traded.weighs f, c.unshare_all.ensures.traded.weighs f) }

pub finish_all-requires-in-Err-clause-short : goal.finish_all-requires-in-Err-clause-short
finish_all-requires-in-Err-clause-short g c = all-short c.args.height c.args.own.now (omega (arith, c.requires.low)) c.requires.own_trees

pub finish_all-requires-in-Err-clause-room : goal.finish_all-requires-in-Err-clause-room
finish_all-requires-in-Err-clause-room g c = omega (arith, c.share_all.ensures.traded.count, c.in-Err.ensures.refused.traded.count, c.unshare_all.ensures.traded.count, c.requires.room)

pub returns-clause-refused : goal.returns-clause-refused
returns-clause-refused g c =
    refused-then g.P.Naming.size c.in-Err.error c.args.w.now c.share_all.new.w c.new_branch.new.w c.finish_all-in-Err.new.w c.args.shared.now c.args.own.now c.share_all.ensures.traded
    (gained-shared_all _ c.args.w.now c.share_all.new.w c.share_all.ensures.gained) c.in-Err.ensures.refused
    (trade c.new_branch.new.w.holds _ [] c.finish_all-in-Err.new.w.holds (λ f. omega (arith, c.unshare_all.ensures.traded.weighs f, c.finish_all-in-Err.ensures.traded.weighs f, sum_by-append f c.args.shared.now c.args.own.now)))
    (gained-then c.new_branch.new.w c.unshare_all.new.w c.finish_all-in-Err.new.w (gained-none c.new_branch.new.w c.unshare_all.new.w c.unshare_all.ensures.gained) (gained-finished_all c.args.own.now c.unshare_all.new.w c.finish_all-in-Err.new.w c.finish_all-in-Err.ensures.finished))
