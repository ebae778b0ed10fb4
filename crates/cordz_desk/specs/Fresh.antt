-- The values that a desk begins with.
use Rattle.std.specs.Prelude.{◌≡◌, ℕ, List, [], ◌∷◌, replicate, None}
use Rattle.cordz_core.specs.declared.slot.SlotState.TheVariants.{Free}
use Rattle.cordz_core.specs.Contents.{Contents, state_of, birth_of}
use Rattle.cordz_core.specs.Legal.{Replays}
use Rattle.record_rule.specs.declared.values.DeskValue.{DeskValue}
use Rattle.record_rule.specs.declared.values.DeskValue.TheVariants.{List as Lists, Record}
use Rattle.record_rule.specs.declared.values.Rep.{Rep}

-- a new registry
pub record IsNewRegistry (r : Contents) : Type 0 where
  pub walkers : r.walkers ≡ 16
  pub replays : Replays [] r
  pub states : (s : ℕ) → state_of r s ≡ Free
  pub walking : (w : ℕ) → birth_of r w ≡ None

module _ {S : Type 0} where
  abbrev pub empty_record : Rep S
  empty_record = record { stamp = 0; update = 0; length = 0; method = 0; hold = None }

  -- a new registry, and 256 empty records
  abbrev pub AreFresh : List (DeskValue S) → Type 0
  AreFresh values = (r : Contents) × IsNewRegistry r × (values ≡ Lists r ∷ replicate 256 (Record empty_record))
