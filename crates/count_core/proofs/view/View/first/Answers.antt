-- The facts of `first` that the check leaves to be shown.
use Rattle.std.proofs.Common.{◌∙◌, ap, arith, sym}
use Rattle.node_forest.specs.Forest.{nodes_of}
use Rattle.node_forest.specs.Counts.{first}
use Rattle.count_core.proofs.TreeNodes.{first_here, first_later}
use Rattle.count_core.proofs.view.View.first.Goals as goal

pub returns-in-Some : goal.returns-in-Some
returns-in-Some c =
    let kids = c.deref-tree-items.result.now in
    sym (ap (λ ts. first c.args.number (nodes_of ts)) (sym (c.deref-tree-items.ensures.value ∙ c.self.view_is))
    ∙ (c.loop-tree.invariant ∙ first_here c.args.number kids c.loop-tree.tree-index c.tree-item.result _ (omega arith) c.tree-item.is c.in-Some.ensures))

pub loop-tree-preserved : goal.loop-tree-preserved
loop-tree-preserved c = c.loop-tree.invariant ∙ first_later c.args.number c.deref-tree-items.result.now c.loop-tree.tree-index c.tree-item.result (omega arith) c.tree-item.is c.in_default.ensures
