-- The facts of `holds_each` that the check leaves to be shown.
use Rattle.std.proofs.Common.{rules, ◌≡◌, ◌∙◌, ap, arith, sym, List}
use Rattle.std.specs.Prelude.{Some, None}
use Rattle.node_forest.specs.Label.{Node, number}
use Rattle.node_forest.specs.Counts.{times, first}
use Rattle.count_core.specs.Views.{IsHeld}
use Rattle.count_core.proofs.Places.{in_item, each_more}
use Rattle.count_core.proofs.view.View.holds_each.Goals as goal
use Rattle.count_core.proofs.view.View.holds_each.Goals.{then-not-equals-via-then-not-equals, then-not-equals-via-else-not-equals+then-times}

pub returns-in_default : goal.returns-in_default
returns-in_default c = (
  λ f. cc,
  λ held. absurd (let h = (held c.tree-item.result (in_item c.args.trees.now c.loop-tree.tree-index c.tree-item.result (omega arith) c.tree-item.is)).is_first in
      let clash : None ≡ Some c.tree-item.result = c.in_default.ensures ∙ (ap (λ n. first n c.args.self.now) (ap number c.tree.view_is) ∙ h) in cc),
)

pub returns-then-not-equals : goal.returns-then-not-equals
returns-then-not-equals c = (
  λ f. cc,
  λ held.
      let h = held c.tree-item.result (in_item c.args.trees.now c.loop-tree.tree-index c.tree-item.result (omega arith) c.tree-item.is) in
      let same : Some c.in-Some.hold.now ≡ Some c.tree-item.result = c.in-Some.ensures ∙ (ap (λ n. first n c.args.self.now) (ap number c.tree.view_is) ∙ h.is_first) in
      elim c.then-not-equals.branch [
        | then-not-equals-via-then-not-equals w ↦ w.if-not-equals.ensures.1 (cc)
        | then-not-equals-via-else-not-equals+then-times w ↦ absurd (let enough = h.enough in
            let mine : times c.tree.inside.number c.args.trees.now ≡ times (number c.tree-item.result) c.args.trees.now = ap (λ n. times n c.args.trees.now) (ap number c.tree.view_is) in
            let here : times c.tree.inside.number w.deref.result.now ≡ times (number c.tree-item.result) c.args.self.now = ap (λ n. times n w.deref.result.now) (ap number c.tree.view_is) ∙ ap (times (number c.tree-item.result)) (w.deref.ensures.value ∙ c.self.view_is) in
            omega (arith, w.times.ensures, w.times-else-not-equals.ensures, w.if-times.true))
      ],
)

pub loop-tree-preserved : goal.loop-tree-preserved
loop-tree-preserved c =
    let x = c.tree-item.result in
    let same = c.if-not-equals.ensures.0 (search rules) in
    let mine : times c.tree.inside.number c.args.trees.now ≡ times (number x) c.args.trees.now = ap (λ n. times n c.args.trees.now) (ap number c.tree.view_is) in
    let here : times c.tree.inside.number c.deref.result.now ≡ times (number x) c.self.inside.holds.items = ap (λ n. times n c.deref.result.now) (ap number c.tree.view_is) ∙ ap (times (number x)) c.deref.ensures.value in
    each_more (IsHeld c.args.trees.now c.self.inside.holds.items) c.args.trees.now c.loop-tree.tree-index x (omega arith) c.tree-item.is c.loop-tree.invariant
    (record {
      is_first = ap (λ (z : List Node). first (number x) z) c.self.view_is ∙ (ap (λ n. first n c.args.self.now) (sym (ap number c.tree.view_is)) ∙ (sym c.in-Some.ensures ∙ ap (λ (z : Node). Some z) same));
      enough = omega (arith, c.times.ensures, c.times-else-not-equals.ensures, c.if-times.false);
    })
