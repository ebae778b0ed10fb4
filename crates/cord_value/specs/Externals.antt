-- What a cord of bytes from outside is, and why it isn't made.
use Rattle.std.specs.Prelude.{ℕ, ◌≡◌, ◌≢◌, [], ◌∷◌, length, None}
use Rattle.tree_shapes.specs.Cords.{cord_of_external}
use Rattle.pool_rule.specs.Gains.{Gain, Gained}
use Rattle.edge_nodes.specs.Externals.{first_slot}
use Rattle.pool_rule.specs.Notes.{Use}
use Rattle.pool_rule.specs.Trades.{SameHolds}
use Rattle.pool_rule.specs.Views.{View}
use Rattle.cord_value.specs.Changes.{IsRefused}
use Rattle.cord_value.specs.Workers.{AreBelow}
use Rattle.cord_value.specs.declared.refusals.CordError.{CordError}
use Rattle.cord_value.specs.declared.refusals.CordError.TheVariants.{NoReleaser}

-- the next slot, used by the node of this number, of n bytes
abbrev pub use_of : ℕ → ℕ → View → Use
use_of number n v = record { slot = first_slot v.unused; number = number; length = n }

-- The worker holds what it held before. It took one number and made one pass, and its first unused releaser slot is used, with the length of the
-- external.
pub record IsExternalMade (limit n number : ℕ) (v w : View) : Type 0 where
  pub holds : SameHolds v.holds w.holds
  pub gain : Gain
  pub gained : Gained gain v w
  pub taken : gain.taken ≡ number ∷ []
  pub made : length gain.counts ≡ 1
  pub below : AreBelow limit gain.counts
  pub ended : gain.ended ≡ 0
  pub used : gain.used ≡ use_of number n v ∷ []
  pub looks : gain.looks ≡ []

-- of n bytes: first want of a slot, and then as for any new cord
abbrev pub IsExternalRefused : ℕ → ℕ → ℕ → CordError → View → View → Type 0
IsExternalRefused size limit n (NoReleaser used) v w = (v.unused ≡ []) × (used ≡ length v.used)
IsExternalRefused size limit n x v w = (v.unused ≢ []) × IsRefused size limit None (cord_of_external n) x v w
