-- The facts of `next_from` that the check leaves to be shown.
use Rattle.std.proofs.Common.{arith, sym, subst, take, ◌+◌}
use Rattle.node_forest.specs.Forest.{nodes_of}
use Rattle.count_core.specs.Search.{IsNext}
use Rattle.count_core.specs.Steps.{roots}
use Rattle.count_core.proofs.Search.{next_view}
use Rattle.count_core.proofs.holders.next_from.Goals as goal

pub loop-view-preserved : goal.loop-view-preserved
loop-view-preserved c =
    let i = c.loop-view.view-index in
    subst (λ z. IsNext c.args.from (nodes_of (roots (take (i + 1) c.args.views.now))) z) (sym c.lesser-next.ensures)
    (next_view c.args.from c.args.views.now i c.view-item.result c.loop-view.next c.next_from.result (omega arith) c.view-item.is c.loop-view.invariant c.next_from.ensures)
