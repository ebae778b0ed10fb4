-- The answers are computed.
use Rattle.std.proofs.Common.{refl, arith}
use Rattle.tree_shapes.specs.Capacity.{capacity_for}
use Rattle.tree_shapes.specs.Filling.{last_room, last_filled}
use Rattle.tree_shapes.specs.Growth.{wrapped, grown}
use Rattle.tree_shapes.specs.Keep.{keep_by, lowered}
use Rattle.tree_shapes.specs.Pieces.{pieces}
use Rattle.tree_shapes.specs.Shape.{level, branch_over}
use Rattle.cord_steps.proofs.samples.records_come_and_go_with_trees.Goals as goal

pub returns : goal.returns
unfolding level branch_over wrapped grown keep_by lowered last_room last_filled pieces capacity_for
returns c = record {
  inline = (λ h. omega (arith, h), (refl, refl));
  tree = (λ h. omega (arith, h), ((omega arith, refl, refl), refl));
  marked = λ h. h.1.0;
  gone = (λ h. omega (arith, h), (refl, refl));
  copied = (λ h. omega (arith, h), ((omega arith, refl, refl), refl));
  changed = (λ h. omega (arith, h), (refl, refl));
  unchanged = (λ h. omega (arith, h), (refl, refl));
}
