-- The record of a slot as a value of the desk, and what is found at its turn.
use Rattle.std.specs.Prelude.{◌≡◌, ◌<◌, ◌≤◌, ◌+◌, ◌-◌, ◌^◌, ℕ, List, [], ◌∷◌, Option, Some, None}
use Rattle.turn_desk.specs.Agreements.{Agreed}
use Rattle.turn_desk.specs.Spots.{home}
use Rattle.record_rule.specs.declared.values.DeskValue.{DeskValue}
use Rattle.record_rule.specs.declared.values.DeskValue.TheVariants.{List as Lists, Record}
use Rattle.record_rule.specs.declared.values.Note.{Note}
use Rattle.record_rule.specs.declared.values.Rep.{Rep}
use Rattle.record_rule.specs.declared.views.Noted.{Noted}
use Rattle.record_rule.specs.declared.views.DeskView.{DeskView}
use Rattle.record_rule.specs.World.{Stands, note_of}
use Rattle.cordz_desk.specs.declared.share.Share.{Share}
use Rattle.cordz_desk.specs.Fresh.{empty_record}
use Rattle.cordz_desk.specs.Shares.{tree_in, IsShare}

module _ {S : Type 0} where
  abbrev pub rep_of : DeskValue S → Rep S
  rep_of (Record r) = r
  rep_of (Lists r) = empty_record

  abbrev pub IsRep : DeskValue S → Type 0
  IsRep x = x ≡ Record (rep_of x)

  -- the same record with this share, or without one
  abbrev pub holding : Option S → Rep S → Rep S
  holding share r = record r { hold = share }

-- an update is raised by one, but for the last one
pub record IsRaised (old new : ℕ) : Type 0 where
  pub next : old < 2 ^ 64 - 1 → new ≡ old + 1
  pub last : old ≡ 2 ^ 64 - 1 → new ≡ old
  pub never : old ≤ new

module _ {P : Type 0} where
  -- the note of a record with its tree, if it has a share
  abbrev pub noted_with : Note → Option (Share P) → List Noted
  noted_with n None = []
  noted_with n (Some x) = record { note = n; tree = tree_in x } ∷ []

  abbrev pub noted_of : Rep (Share P) → List Noted
  noted_of r = noted_with (note_of r) r.hold

  -- between two steps, while a token knew this, the slot had this record and nobody had its turn
  abbrev pub FoundAt : ℕ → Rep (Share P) → DeskView → Type 0
  FoundAt s r v = Agreed (Stands tree_in IsShare) (s + 1) (home (Record r)) v
