-- The answers are computed.
use Rattle.std.proofs.Common.{refl, arith}
use Rattle.tree_shapes.specs.Capacity.{capacity_for}
use Rattle.tree_shapes.specs.Filling.{last_room, last_filled}
use Rattle.tree_shapes.specs.Growth.{wrapped, grown}
use Rattle.tree_shapes.specs.Keep.{keep_by, lowered}
use Rattle.tree_shapes.specs.Pieces.{pieces}
use Rattle.tree_shapes.specs.Shape.{level, branch_over}
use Rattle.cord_steps.proofs.samples.refusals_come_to_what_needs_something.Goals as goal

pub returns : goal.returns
unfolding level branch_over wrapped grown keep_by lowered last_room last_filled pieces capacity_for
returns c = record {
  cords = (λ h. omega (arith, h), refl, omega arith);
  few = λ h. omega (arith, h.2);
  pool = (λ h. omega (arith, h), refl, refl);
  size = λ h. omega (arith, h.2);
  inline = λ h. absurd (let e = h.1 in cc);
  no_number = λ h. absurd (let e = h.1 in cc);
  copy = λ h. absurd (let e = h.1 in cc);
  copy_pass = (λ h. omega (arith, h), refl, omega arith);
  releasers = refl;
}
