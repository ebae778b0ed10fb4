-- The facts of `equals` that the check leaves to be shown.
use Rattle.std.proofs.Common.{◌≡◌, ◌∙◌, ap, arith, sym, length, get_or, subst, List}
use Rattle.node_forest.specs.Label.{Node}
use Rattle.count_core.proofs.Lists.{item_same}
use Rattle.count_core.proofs.TreeNodes.{children_same}
use Rattle.count_core.proofs.tree.Tree.+equals.Goals as goal

pub returns-then-len : goal.returns-then-len
returns-then-len t c = (
  λ f. cc,
  λ e. absurd (let same = ap length (children_same c.self.inside c.other.inside (c.self.view_is ∙ (e ∙ sym c.other.view_is))) in
      omega (arith, c.len.ensures, c.len-2.ensures, c.self.inside.children.ok, c.other.inside.children.ok)),
)

pub returns-then-not-equals : goal.returns-then-not-equals
returns-then-not-equals t c = (
  λ f. cc,
  λ e.
      let kids = c.deref-child-items.result.now in
      let same : c.other.inside.children.items ≡ kids = sym (children_same c.self.inside c.other.inside (c.self.view_is ∙ (e ∙ sym c.other.view_is))) ∙ sym c.deref-child-items.ensures.value in
      let there : c.index.result.now ≡ get_or kids c.loop-i.i c.index.result.now = subst (λ (xs : List Node). c.index.result.now ≡ get_or xs c.loop-i.i c.index.result.now) same c.index.ensures in
      c.if-not-equals.ensures.1 (item_same kids c.loop-i.i c.child-item.result c.index.result.now (omega arith) c.child-item.is there),
)
