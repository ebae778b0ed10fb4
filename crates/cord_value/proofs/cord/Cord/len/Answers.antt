-- No cord has more bytes than may be, and its tree is well formed.
use Rattle.std.proofs.Common.{length, ap, sym, subst, ◌∙◌, arith}
use Rattle.node_edges.proofs.TextLaws.{length-whole}
use Rattle.cord_value.specs.Forms.{view_of, IsForm}
use Rattle.cord_value.specs.Views.{CordView, IsTreeOf}
use Rattle.cord_value.proofs.Roots.{formed-of}
use Rattle.cord_value.proofs.cord.Cord.len.Goals as goal

pub returns-in-Tree-clause-short : goal.returns-in-Tree-clause-short
returns-in-Tree-clause-short g c =
    let kept = subst IsForm c.in-Tree.is c.self.invariant in
    let seen = ap (λ (z : CordView). length z.bytes) (sym (ap view_of c.in-Tree.is) ∙ c.self.view_is) in
    omega (arith, kept.short, length-whole c.in-Tree.root kept.formed, seen)

pub returns-in-Tree-clause-formed : goal.returns-in-Tree-clause-formed
returns-in-Tree-clause-formed g c =
    let kept = subst IsForm c.in-Tree.is c.self.invariant in
    subst (λ (z : CordView). IsTreeOf z.bytes z.tree) (sym (ap view_of c.in-Tree.is) ∙ c.self.view_is) (formed-of c.in-Tree.root c.in-Tree.pass.holds kept)
