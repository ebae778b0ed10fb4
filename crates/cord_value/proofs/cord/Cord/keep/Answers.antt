-- The range lies within the tree.
use Rattle.std.proofs.Common.{◌∙◌, length, ap, sym, subst, arith}
use Rattle.node_edges.proofs.TextLaws.{length-whole}
use Rattle.cord_value.specs.Forms.{view_of, IsForm}
use Rattle.cord_value.specs.Views.{CordView}
use Rattle.cord_value.proofs.cord.Cord.keep.Goals as goal

pub keep_range-requires-clause-within : goal.keep_range-requires-clause-within
keep_range-requires-clause-within g c =
    let kept = subst IsForm c.in-Tree.is c.self.invariant in
    let seen = ap (λ (z : CordView). length z.bytes) (sym (ap view_of c.in-Tree.is) ∙ c.self.view_is) in
    omega (arith, c.requires.within, seen, length-whole c.in-Tree.root kept.formed)
