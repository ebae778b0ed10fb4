-- The run is worked out line by line.
use Rattle.std.proofs.Common.{refl, arith, [], ◌∷◌, Some, None, ℕ, ◌≢◌, zero, suc, All}
use Rattle.tree_shapes.specs.Capacity.{capacity_for}
use Rattle.tree_shapes.specs.Filling.{last_room, last_filled}
use Rattle.tree_shapes.specs.Growth.{wrapped, grown}
use Rattle.tree_shapes.specs.Keep.{keep_by, lowered}
use Rattle.tree_shapes.specs.Pieces.{pieces}
use Rattle.tree_shapes.specs.Shape.{level, branch_over}
use Rattle.plain_cord.specs.declared.history.Act.TheVariants.{Peek}
use Rattle.cord_steps.specs.Samples.{each_sampled}
use Rattle.cord_runs.specs.Samples.{putting, peeking, put_book, peeked_book, first_action, put_entry}
use Rattle.cord_runs.proofs.SampleRuns.{worked}
use Rattle.cord_runs.proofs.samples.refused_peeks_are_no_actions.Goals as goal

apart : All (λ (m : ℕ). 1 ≢ m) (2 ∷ [])
apart zero d below = λ same. omega (arith, same)
apart (suc k) d below = absurd (omega (arith, below))

pub returns : goal.returns
unfolding level branch_over wrapped grown keep_by lowered last_room last_filled pieces capacity_for
returns c = worked each_sampled (λ p. 0) (putting ∷ peeking ∷ []) (put_book ∷ peeked_book ∷ []) (put_entry ∷ first_action 1 Peek None (Some 20) ∷ []) refl
    ((λ h. omega (arith, h), ((omega arith, refl, refl), refl)), (refl, (omega arith, (((omega arith, refl, refl), refl), tt))))
    refl (apart, ((λ k d below. absurd (omega (arith, below))), tt))
