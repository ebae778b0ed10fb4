-- The facts of `next_from` that the check leaves to be shown.
use Rattle.std.proofs.Common.{arith, sym, subst, take, [], ◌+◌}
use Rattle.node_forest.specs.Forest.{nodes_of}
use Rattle.count_core.specs.Search.{IsNext}
use Rattle.count_core.proofs.Search.{next_tree}
use Rattle.count_core.proofs.view.View.next_from.Goals as goal

pub loop-tree-preserved : goal.loop-tree-preserved
loop-tree-preserved c =
    let i = c.loop-tree.tree-index in
    let trees = c.deref-tree-items.result.now in
    subst (λ z. IsNext c.args.from (nodes_of (take (i + 1) trees)) z) (sym c.lesser-next.ensures)
    (next_tree c.args.from [] trees i c.tree-item.result c.loop-tree.next c.next_from.result (omega arith) c.tree-item.is c.loop-tree.invariant c.next_from.ensures)
