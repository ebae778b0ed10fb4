-- What the proof of `merged` needs beyond the search.
use Rattle.std.proofs.Common.{ℕ, ◌≡◌, ◌+◌, ◌≤◌, ◌<◌, List, [], length, refl, sym, ap, subst, ◌∙◌, arith}
use Rattle.std.specs.Prelude.{Err}
use Rattle.std.proofs.lemmas.Result.{IfOk-weaker, IfErr-weaker}
use Rattle.node_forest.specs.declared.side.Side.{Side}
use Rattle.node_forest.specs.Label.{Node}
use Rattle.node_edges.specs.Trees.{shape_of, IsTreeAt}
use Rattle.tree_shapes.specs.Growth.{added_by}
use Rattle.tree_shapes.specs.Merge.{across, meeting, joined}
use Rattle.tree_shapes.specs.Shape.{Shape, level}
use Rattle.btree_node.specs.Made.{IsMadeFrom, IsLeftAlone}
use Rattle.btree_node.specs.Adding.{kept_added, IsAdded}
use Rattle.btree_node.proofs.GrowLaws.{root-at}
use Rattle.btree_merge.proofs.FewLaws.{added-few, both-ok}
use Rattle.btree_merge.proofs.MergeLaws.{joined-low, joined-high, kept-low, kept-high, merged-low, merged-high}
use Rattle.btree_merge.proofs.merging.merged.Goals as goal

pub with_node-requires-clause-node : goal.with_node-requires-clause-node
with_node-requires-clause-node g c = root-at _ c.args.other.now refl c.requires.other c.requires.other_filled

pub with_node-requires-clause-no_higher : goal.with_node-requires-clause-no_higher
with_node-requires-clause-no_higher g c = omega (arith, c.level_of.ensures, c.level_of-2.ensures, c.if-level_of.true)

pub returns-then-level_of-clause-merged : goal.returns-then-level_of-clause-merged
returns-then-level_of-clause-merged g c =
    let side = c.args.side in
    let t = c.args.tree.now in
    let x = c.args.other.now in
    let low : level (shape_of x) ≤ level (shape_of t) = omega (arith, c.level_of.ensures, c.level_of-2.ensures, c.if-level_of.true) in
    IfOk-weaker c.with_node.result _ _ (λ e a. merged-low side t x e low a) c.with_node.ensures.added

pub returns-then-level_of-clause-made : goal.returns-then-level_of-clause-made
returns-then-level_of-clause-made g c =
    let side = c.args.side in
    let t = c.args.tree.now in
    let x = c.args.other.now in
    let low : level (shape_of x) ≤ level (shape_of t) = omega (arith, c.level_of.ensures, c.level_of-2.ensures, c.if-level_of.true) in
    IfOk-weaker c.with_node.result _ _ (λ e m. subst (λ (ks : List Node). IsMadeFrom [] ks c.args.w.now c.with_node.new.w e) (sym (kept-low side t x low)) m) c.with_node.ensures.made

pub returns-then-level_of-clause-few : goal.returns-then-level_of-clause-few
returns-then-level_of-clause-few g c =
    let side = c.args.side in
    let t = c.args.tree.now in
    let x = c.args.other.now in
    let v = c.args.w.now in
    let w = c.with_node.new.w in
    let low : level (shape_of x) ≤ level (shape_of t) = omega (arith, c.level_of.ensures, c.level_of-2.ensures, c.if-level_of.true) in
    both-ok c.with_node.result (IsAdded (meeting side (shape_of x)) side t x) (IsMadeFrom [] (kept_added (meeting side (shape_of x)) side t x) v w) (λ e. length w.taken ≤ length v.taken + 13)
    (λ e a m. omega (arith, m.took, added-few side t x e c.requires.tree c.requires.filled low a.shape)) c.with_node.ensures.added c.with_node.ensures.made

pub returns-then-level_of-clause-high : goal.returns-then-level_of-clause-high
returns-then-level_of-clause-high g c = λ up.
    let side = c.args.side in
    let t = c.args.tree.now in
    let x = c.args.other.now in
    let low : level (shape_of x) ≤ level (shape_of t) = omega (arith, c.level_of.ensures, c.level_of-2.ensures, c.if-level_of.true) in
    c.with_node.ensures.high (omega (arith, up, ap level (joined-low side t x low)))

pub returns-then-level_of-clause-refused : goal.returns-then-level_of-clause-refused
returns-then-level_of-clause-refused g c =
    let side = c.args.side in
    let t = c.args.tree.now in
    let x = c.args.other.now in
    let low : level (shape_of x) ≤ level (shape_of t) = omega (arith, c.level_of.ensures, c.level_of-2.ensures, c.if-level_of.true) in
    IfErr-weaker c.with_node.result _ _ (λ error r. subst (λ (s : Shape). IsLeftAlone g.P.Naming.size s error c.args.w.now c.with_node.new.w) (sym (joined-low side t x low)) r) c.with_node.ensures.refused

-- ---- the tree is the lower one
pub with_node-requires-2-clause-node : goal.with_node-requires-2-clause-node
with_node-requires-2-clause-node g c = root-at _ c.args.tree.now refl c.requires.tree c.requires.filled

pub with_node-requires-2-clause-no_higher : goal.with_node-requires-2-clause-no_higher
with_node-requires-2-clause-no_higher g c = omega (arith, c.level_of.ensures, c.level_of-2.ensures, c.if-level_of.false)

pub returns-clause-merged : goal.returns-clause-merged
returns-clause-merged g c =
    let t = c.args.tree.now in
    let x = c.args.other.now in
    let side = c.args.side in
    let high : level (shape_of t) < level (shape_of x) = omega (arith, c.level_of.ensures, c.level_of-2.ensures, c.if-level_of.false) in
    IfOk-weaker c.with_node-2.result _ _
    (λ e a. merged-high side t x e high (subst (λ (s : Side). IsAdded (meeting s (shape_of t)) s x t e) c.across.ensures a)) c.with_node-2.ensures.added

pub returns-clause-made : goal.returns-clause-made
returns-clause-made g c =
    let t = c.args.tree.now in
    let x = c.args.other.now in
    let side = c.args.side in
    let high : level (shape_of t) < level (shape_of x) = omega (arith, c.level_of.ensures, c.level_of-2.ensures, c.if-level_of.false) in
    IfOk-weaker c.with_node-2.result _ _
    (λ e m. subst (λ (ks : List Node). IsMadeFrom [] ks c.args.w.now c.with_node-2.new.w e) (sym (kept-high side t x high)) (subst (λ (s : Side). IsMadeFrom [] (kept_added (meeting s (shape_of t)) s x t) c.args.w.now c.with_node-2.new.w e) c.across.ensures m))
    c.with_node-2.ensures.made

pub returns-clause-few : goal.returns-clause-few
returns-clause-few g c =
    let s = c.across.result in
    let t = c.args.tree.now in
    let x = c.args.other.now in
    let v = c.args.w.now in
    let w = c.with_node-2.new.w in
    let low : level (shape_of t) ≤ level (shape_of x) = omega (arith, c.level_of.ensures, c.level_of-2.ensures, c.if-level_of.false) in
    both-ok c.with_node-2.result (IsAdded (meeting s (shape_of t)) s x t) (IsMadeFrom [] (kept_added (meeting s (shape_of t)) s x t) v w) (λ e. length w.taken ≤ length v.taken + 13)
    (λ e a m. omega (arith, m.took, added-few s x t e c.requires.other c.requires.other_filled low a.shape)) c.with_node-2.ensures.added c.with_node-2.ensures.made

pub returns-clause-high : goal.returns-clause-high
returns-clause-high g c = λ up.
    let t = c.args.tree.now in
    let x = c.args.other.now in
    let side = c.args.side in
    let high : level (shape_of t) < level (shape_of x) = omega (arith, c.level_of.ensures, c.level_of-2.ensures, c.if-level_of.false) in
    let same : joined side (shape_of t) (shape_of x) ≡ added_by (meeting c.across.result (shape_of t)) c.across.result (shape_of x) (shape_of t) = joined-high side t x high ∙ sym (ap (λ (s : Side). added_by (meeting s (shape_of t)) s (shape_of x) (shape_of t)) c.across.ensures) in
    c.with_node-2.ensures.high (omega (arith, up, ap level same))

pub returns-clause-refused : goal.returns-clause-refused
returns-clause-refused g c =
    let t = c.args.tree.now in
    let x = c.args.other.now in
    let side = c.args.side in
    let high : level (shape_of t) < level (shape_of x) = omega (arith, c.level_of.ensures, c.level_of-2.ensures, c.if-level_of.false) in
    let same : joined side (shape_of t) (shape_of x) ≡ added_by (meeting c.across.result (shape_of t)) c.across.result (shape_of x) (shape_of t) = joined-high side t x high ∙ sym (ap (λ (s : Side). added_by (meeting s (shape_of t)) s (shape_of x) (shape_of t)) c.across.ensures) in
    IfErr-weaker c.with_node-2.result _ _ (λ error r. subst (λ (s : Shape). IsLeftAlone g.P.Naming.size s error c.args.w.now c.with_node-2.new.w) (sym same) r) c.with_node-2.ensures.refused
