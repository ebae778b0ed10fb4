-- The facts of `first` that the check leaves to be shown.
use Rattle.std.proofs.Common.{◌∙◌, arith, sym}
use Rattle.count_core.proofs.Search.{first_view_here, first_view_later}
use Rattle.count_core.proofs.holders.first.Goals as goal

pub returns-in-Some : goal.returns-in-Some
returns-in-Some c = sym (c.loop-view.invariant ∙ first_view_here c.args.number c.args.views.now c.loop-view.view-index c.view-item.result _ (omega arith) c.view-item.is c.in-Some.ensures)

pub loop-view-preserved : goal.loop-view-preserved
loop-view-preserved c = c.loop-view.invariant ∙ first_view_later c.args.number c.args.views.now c.loop-view.view-index c.view-item.result (omega arith) c.view-item.is c.in_default.ensures
