-- The facts of `next_from` that the check leaves to be shown.
use Rattle.std.proofs.Common.{◌∙◌, ◌∷◌, [], arith, ap, sym, subst, take, ◌+◌}
use Rattle.node_forest.specs.Forest.{nodes, nodes_of}
use Rattle.node_forest.specs.Label.{Node}
use Rattle.node_forest.proofs.Members.{nodes-forest}
use Rattle.count_core.specs.Search.{IsNext}
use Rattle.count_core.proofs.Lists.{take_whole}
use Rattle.count_core.proofs.Search.{next_tree}
use Rattle.count_core.proofs.tree.Tree.+next_from.Goals as goal

pub loop-child-preserved : goal.loop-child-preserved
loop-child-preserved t c =
    let i = c.loop-child.child-index in
    let trees = c.deref-child-items.result.now in
    subst (λ z. IsNext c.args.from (c.args.self.now ∷ nodes_of (take (i + 1) trees)) z) (sym c.lesser-next.ensures)
    (next_tree c.args.from (c.args.self.now ∷ []) trees i c.child-item.result c.loop-child.next c.next_from.result (omega arith) c.child-item.is c.loop-child.invariant c.next_from.ensures)

pub returns : goal.returns
returns t c =
    let trees = c.deref-child-items.result.now in
    subst (λ z. IsNext c.args.from (c.args.self.now ∷ z) c.loop-child.next)
    (ap nodes_of (take_whole trees c.loop-child.child-index (omega arith) ∙ c.deref-child-items.ensures.value) ∙ (sym (nodes-forest c.self.inside.children.items) ∙ ap (λ (n : Node). nodes n.1) c.self.view_is))
    c.loop-child.invariant
