-- The runs are worked out line by line.
use Rattle.std.proofs.Common.{refl, arith, [], ◌∷◌, Some, None}
use Rattle.tree_shapes.specs.Capacity.{capacity_for}
use Rattle.tree_shapes.specs.Filling.{last_room, last_filled}
use Rattle.tree_shapes.specs.Growth.{wrapped, grown}
use Rattle.tree_shapes.specs.Keep.{keep_by, lowered}
use Rattle.tree_shapes.specs.Pieces.{pieces}
use Rattle.tree_shapes.specs.Shape.{level, branch_over}
use Rattle.plain_cord.specs.declared.history.Act.TheVariants.{Take}
use Rattle.cord_steps.specs.Samples.{each_sampled}
use Rattle.cord_runs.specs.Samples.{putting, taking, put_book, taken_book, empty_book, first_action, put_entry}
use Rattle.cord_runs.proofs.SampleRuns.{worked}
use Rattle.cord_runs.proofs.samples.takes_find_what_was_put_before.Goals as goal

pub returns : goal.returns
unfolding level branch_over wrapped grown keep_by lowered last_room last_filled pieces capacity_for
returns c = record {
  behind = worked each_sampled (λ p. 0) (putting ∷ taking ∷ []) (put_book ∷ taken_book ∷ []) (put_entry ∷ first_action 1 Take None (Some 20) ∷ []) refl
      ((λ h. omega (arith, h), ((omega arith, refl, refl), refl)), (refl, (refl, ((λ h. omega (arith, h), (refl, refl)), tt))))
      refl ((λ k d below. absurd (omega (arith, below))), tt);
  before = worked each_sampled (λ p. 0) (putting ∷ taking ∷ []) (put_book ∷ empty_book ∷ []) (first_action 1 Take None None ∷ put_entry ∷ []) refl
      (refl, ((λ h. omega (arith, h), ((omega arith, refl, refl), refl)), (refl, (refl, tt))))
      refl ((λ k d below. absurd (omega (arith, below))), tt);
  never = λ run. absurd (let e = run.plays.1.answered in cc);
}
