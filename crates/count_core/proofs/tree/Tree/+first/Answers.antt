-- The facts of `first` that the check leaves to be shown.
use Rattle.std.proofs.Common.{◌∙◌, ap, arith, sym}
use Rattle.node_forest.specs.Forest.{forest, nodes_of}
use Rattle.node_forest.specs.Label.{Node, number}
use Rattle.node_forest.specs.Counts.{first}
use Rattle.count_core.proofs.Lists.{drop_whole}
use Rattle.count_core.proofs.TreeNodes.{first-below, first_here, first_later}
use Rattle.count_core.proofs.tree.Tree.+first.Goals as goal

pub returns-in-Some : goal.returns-in-Some
returns-in-Some t c =
    let kids = c.deref-child-items.result.now in
    sym (first-below c.args.number c.args.self.now kids _ (ap forest c.deref-child-items.ensures.value ∙ ap (λ (n : Node). n.1) c.self.view_is)
    (λ e. c.if-self-number.false (ap number c.self.view_is ∙ e))
    (c.loop-child.invariant ∙ first_here c.args.number kids c.loop-child.child-index c.child-item.result _ (omega arith) c.child-item.is c.in-Some.ensures))

pub loop-child-preserved : goal.loop-child-preserved
loop-child-preserved t c = c.loop-child.invariant ∙ first_later c.args.number c.deref-child-items.result.now c.loop-child.child-index c.child-item.result (omega arith) c.child-item.is c.in_default.ensures

pub returns : goal.returns
returns t c =
    let kids = c.deref-child-items.result.now in
    sym (first-below c.args.number c.args.self.now kids _ (ap forest c.deref-child-items.ensures.value ∙ ap (λ (n : Node). n.1) c.self.view_is)
    (λ e. c.if-self-number.false (ap number c.self.view_is ∙ e))
    (c.loop-child.invariant ∙ ap (λ ts. first c.args.number (nodes_of ts)) (drop_whole kids c.loop-child.child-index (omega arith))))
