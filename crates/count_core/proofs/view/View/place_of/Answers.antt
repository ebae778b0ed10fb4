-- The facts of `place_of` that the check leaves to be shown.
use Rattle.std.proofs.Common.{◌≡◌, ◌∙◌, ◌<◌, ap, arith, sym, subst, length, List}
use Rattle.std.specs.Prelude.{None, slice_get}
use Rattle.std.specs.List.{remove}
use Rattle.node_forest.specs.Label.{Node, number}
use Rattle.node_forest.specs.Counts.{first}
use Rattle.count_core.specs.Views.{without}
use Rattle.count_core.proofs.Places.{place_found, place_passed, place_none}
use Rattle.count_core.proofs.view.View.place_of.Goals as goal

pub returns-then-tree-number : goal.returns-then-tree-number
returns-then-tree-number c =
    let kids = c.deref-tree-items.result.now in
    let i = c.loop-i.i in
    let p = place_found c.args.number kids i c.tree-item.result (omega arith) c.tree-item.is (ap number (sym c.tree.view_is) ∙ c.if-tree-number.true) c.loop-i.invariant.0 c.loop-i.invariant.1 in
    subst (λ (ts : List Node). (i < length ts) × (slice_get ts i ≡ first c.args.number ts) × (without c.args.number ts ≡ remove ts i)) (c.deref-tree-items.ensures.value ∙ c.self.view_is) (omega arith, p.0, p.1)

pub loop-i-preserved : goal.loop-i-preserved
loop-i-preserved c = place_passed c.args.number c.deref-tree-items.result.now c.loop-i.i c.tree-item.result (omega arith) c.tree-item.is (λ e. c.if-tree-number.false (ap number c.tree.view_is ∙ e)) c.loop-i.invariant.0 c.loop-i.invariant.1

pub returns : goal.returns
returns c =
    subst (λ (ts : List Node). (first c.args.number ts ≡ None) × (without c.args.number ts ≡ ts)) (c.deref-tree-items.ensures.value ∙ c.self.view_is)
    (place_none c.args.number c.deref-tree-items.result.now c.loop-i.i (omega arith) c.loop-i.invariant.0 c.loop-i.invariant.1)
