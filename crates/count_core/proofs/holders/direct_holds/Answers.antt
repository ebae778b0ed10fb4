-- The facts of `direct_holds` that the check leaves to be shown.
use Rattle.std.proofs.Common.{◌≡◌, ◌∙◌, ap, arith}
use Rattle.node_forest.specs.Counts.{times}
use Rattle.count_core.specs.Steps.{roots}
use Rattle.count_core.proofs.Lists.{drop_whole}
use Rattle.count_core.proofs.Search.{times_view}
use Rattle.count_core.proofs.holders.direct_holds.Goals as goal

pub loop-view-preserved : goal.loop-view-preserved
loop-view-preserved c =
    let next = times_view c.args.number c.args.views.now c.loop-view.view-index c.view-item.result (omega arith) c.view-item.is in
    let here : c.times.result ≡ times c.args.number c.view-item.result = c.times.ensures ∙ ap (times c.args.number) (c.deref.ensures.value ∙ c.view.view_is) in
    let sum = c.saturating_add-count.ensures in
    let before = c.loop-view.invariant in
    (omega arith, omega arith)

pub returns : goal.returns
returns c =
    let none = ap (λ z. times c.args.number (roots z)) (drop_whole c.args.views.now c.loop-view.view-index (omega arith)) in
    let all = c.loop-view.invariant in omega arith
