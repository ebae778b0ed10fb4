-- The sum is that of the root.
use Rattle.std.proofs.Common.{ap, sym, ◌∙◌}
use Rattle.cord_value.specs.Forms.{view_of}
use Rattle.cord_value.specs.Views.{CordView, sum_in_cord}
use Rattle.cord_value.proofs.SumLaws.{sum-value, no-value}
use Rattle.cord_value.proofs.cord.Cord.sum.Goals as goal

pub returns-in-Sum : goal.returns-in-Sum
returns-in-Sum g c =
    sym (sum-value c.in-Tree.root c.in-Sum.value c.in-Sum.child (rw c.in-Sum.is at c.body.ensures.body))
    ∙ ap (λ (z : CordView). sum_in_cord z) (sym (ap view_of c.in-Tree.is) ∙ c.self.view_is)

pub returns-in_default : goal.returns-in_default
returns-in_default g c =
    sym (no-value c.in-Tree.root c.body.result.now c.body.ensures.body c.in_default.not-Sum)
    ∙ ap (λ (z : CordView). sum_in_cord z) (sym (ap view_of c.in-Tree.is) ∙ c.self.view_is)
