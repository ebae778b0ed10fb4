-- A tree beside an inline cord's bytes, or beside its tree.
use Rattle.std.proofs.Common.{◌∙◌, length, ap, sym, subst, arith}
use Rattle.node_edges.proofs.TextLaws.{length-whole}
use Rattle.cord_value.specs.Forms.{IsForm, view_of}
use Rattle.cord_value.specs.Views.{CordView}
use Rattle.cord_value.proofs.cord.Cord.join_drawn.Goals as goal

pub join_trees-requires-clause-short : goal.join_trees-requires-clause-short
join_trees-requires-clause-short g c =
    let kept = subst IsForm c.in-Tree.is c.self.invariant in
    let seen = ap (λ (z : CordView). length z.bytes) (sym (ap view_of c.in-Tree.is) ∙ c.self.view_is) in
    omega (arith, c.requires.short, length-whole c.in-Tree.root kept.formed, seen)
