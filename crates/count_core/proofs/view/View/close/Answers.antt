-- The facts of `close` that the check leaves to be shown.
use Rattle.std.proofs.Common.{◌∙◌, ap, arith, [], ◌∷◌}
use Rattle.node_forest.specs.Label.{number}
use Rattle.count_core.specs.Views.{without}
use Rattle.count_core.proofs.Places.{closes_next}
use Rattle.count_core.proofs.view.View.close.Goals as goal

pub loop-child-preserved : goal.loop-child-preserved
loop-child-preserved c =
    let x = c.child-item.result in
    c.remove.ensures ∙ (ap (λ n. without n c.loop-child.self) (ap number c.child.view_is)
    ∙ (ap (without (number x)) c.loop-child.invariant ∙ closes_next c.args.children.now c.args.self.now (c.args.tree ∷ []) c.loop-child.child-index x c.requires (omega arith) c.child-item.is))
