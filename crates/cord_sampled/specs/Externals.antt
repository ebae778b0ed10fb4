-- What a cord over an external leaves a worker with, sampled or not, and what a refused one does.
use Rattle.std.specs.Prelude.{ℕ, ◌≡◌, ◌⊎◌, [], ◌∷◌, length, true, Bool}
use Rattle.pool_rule.specs.Gains.{Gain, Gained}
use Rattle.pool_rule.specs.Trades.{SameHolds}
use Rattle.pool_rule.specs.Views.{View}
use Rattle.cord_value.specs.Externals.{use_of}
use Rattle.cord_value.specs.Refusals.{IsBalanced}
use Rattle.cord_value.specs.Workers.{AreBelow}
use Rattle.cord_value.specs.declared.refusals.CordError.{CordError}
use Rattle.cord_value.specs.declared.refusals.CordError.TheVariants.{Memory}

-- The worker holds what it held before. It took one number, and its first unused releaser slot is used, with the length of the external. It made so many
-- passes, each where fewer were live than the limit, and ended so many.
pub record KeepsExternal (limit n number new gone : ℕ) (v w : View) : Type 0 where
  pub holds : SameHolds v.holds w.holds
  pub gain : Gain
  pub gained : Gained gain v w
  pub taken : gain.taken ≡ number ∷ []
  pub made : length gain.counts ≡ new
  pub below : AreBelow limit gain.counts
  pub ended : gain.ended ≡ gone
  pub used : gain.used ≡ use_of number n v ∷ []
  pub looks : gain.looks ≡ []

-- the external was made, and left again, since memory was wanting for a share for its record; both passes ended
pub record IsExternalLeft (limit : ℕ) (due : Bool) (n : ℕ) (x : CordError) (v w : View) : Type 0 where
  pub memory : x ≡ Memory
  pub was_due : due ≡ true
  pub number : ℕ
  pub keeps : KeepsExternal limit n number 2 2 v w

-- no slot was used, or that
abbrev pub IsExternalUndone : ℕ → Bool → ℕ → CordError → View → View → Type 0
IsExternalUndone limit due n x v w = IsBalanced limit x v w ⊎ IsExternalLeft limit due n x v w
