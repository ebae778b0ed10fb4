-- A tree is well formed, and has more than 15 bytes or a sum.
use Rattle.std.proofs.Common.{◌<◌, ◌⊎◌, length, ap, sym, subst, refl, ◌∙◌}
use Rattle.std.specs.Prelude.{IsSome}
use Rattle.cord_value.specs.Forms.{view_of, IsForm}
use Rattle.cord_value.specs.Views.{CordView, IsTreeOf, sum_in_cord}
use Rattle.cord_value.proofs.Roots.{formed-of}
use Rattle.cord_value.proofs.cord.Cord.is_tree.Goals as goal

pub returns-in-Tree-clause-long : goal.returns-in-Tree-clause-long
returns-in-Tree-clause-long g c =
    let kept = subst IsForm c.in-Tree.is c.self.invariant in
    let formed = formed-of c.in-Tree.root c.in-Tree.pass.holds kept in
    (λ is. subst (λ (z : CordView). (15 < length z.bytes) ⊎ IsSome (sum_in_cord z)) (sym (ap view_of c.in-Tree.is) ∙ c.self.view_is) formed.2, λ long. refl)

pub returns-in-Tree-clause-formed : goal.returns-in-Tree-clause-formed
returns-in-Tree-clause-formed g c =
    let kept = subst IsForm c.in-Tree.is c.self.invariant in
    subst (λ (z : CordView). IsTreeOf z.bytes z.tree) (sym (ap view_of c.in-Tree.is) ∙ c.self.view_is) (formed-of c.in-Tree.root c.in-Tree.pass.holds kept)
