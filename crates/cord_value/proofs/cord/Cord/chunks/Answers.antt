-- A tree is read from its first byte on.
use Rattle.std.proofs.Common.{◌∙◌, ap, sym, subst}
use Rattle.cord_value.specs.Forms.{view_of, IsForm}
use Rattle.cord_value.specs.Views.{CordView, from_start}
use Rattle.cord_value.proofs.cord.Cord.chunks.Goals as goal

pub new-requires : goal.new-requires
new-requires g c = let kept = subst IsForm c.in-Tree.is c.self.invariant in kept.formed

pub returns-in-Tree : goal.returns-in-Tree
returns-in-Tree g c = c.new.ensures ∙ ap (λ (z : CordView). from_start z) (sym (ap view_of c.in-Tree.is) ∙ c.self.view_is)
