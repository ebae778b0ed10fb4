-- What is seen of tickets and of changes.
use Rattle.std.specs.Prelude.{◌≡◌, ◌+◌, ℕ, Bool, false, List, MatchOption, None}
use Rattle.std.specs.Bool.{⊤}
use Rattle.turn_desk.specs.Passes.{desk_view, IsIdle, HasTurn}
use Rattle.turn_desk.specs.Turns.{turn_place, turn_value, taken_value}
use Rattle.record_rule.specs.declared.values.DeskValue.TheVariants.{Record}
use Rattle.record_rule.specs.declared.views.Noted.{Noted}
use Rattle.record_rule.specs.World.{note_of, is_bare}
use Rattle.cordz_desk.specs.declared.share.Share.{Share}
use Rattle.cordz_desk.specs.declared.tickets.Ticket.{Ticket}
use Rattle.cordz_desk.specs.declared.tickets.Change.{Change}
use Rattle.cordz_desk.specs.Reps.{IsRep, rep_of, holding}
use Rattle.cordz_desk.specs.Shares.{tree_in, IsShare}
use Rattle.cordz_desk.specs.Owners.{slot_in, stamp_in, notes_in, bare_in, IsNewest, IsNewestTree}

module _ {P D : Type 0} {p : _} {d : _} where
  -- a ticket's slot, its stamp, the notes set under it, what came last first, and whether its record is bare
  abbrev pub slot_of : Ticket P D p d → ℕ
  slot_of t = slot_in (desk_view t.pass)

  abbrev pub stamp_of : Ticket P D p d → ℕ
  stamp_of t = stamp_in (desk_view t.pass)

  abbrev pub notes_of : Ticket P D p d → List Noted
  notes_of t = notes_in (desk_view t.pass)

  abbrev pub bare_of : Ticket P D p d → Bool
  bare_of t = bare_in (desk_view t.pass)

  -- its record's turn isn't taken by it
  abbrev pub IsAtRest : Ticket P D p d → Type 0
  IsAtRest t = IsIdle t.pass

  -- a ticket of the same record, which knows the same
  pub record IsSameTicket (t u : Ticket P D p d) : Type 0 where
    pub slot : slot_of u ≡ slot_of t
    pub stamp : stamp_of u ≡ stamp_of t
    pub notes : notes_of u ≡ notes_of t
    pub bare : bare_of u ≡ bare_of t

  -- a change of this ticket's record, whose share was taken out
  pub record IsChangeOf (t : Ticket P D p d) (c : Change P) : Type 0 where
    pub place : turn_place c.turn ≡ slot_of t + 1
    pub turn : HasTurn t.pass (turn_place c.turn) (taken_value c.turn)
    pub from : IsRep (taken_value c.turn)
    pub value : turn_value c.turn ≡ Record (holding None (rep_of (taken_value c.turn)))
    pub stamped : (rep_of (taken_value c.turn)).stamp ≡ stamp_of t
    pub note : IsNewest (note_of (rep_of (taken_value c.turn))) (notes_of t)
    pub bare : is_bare (rep_of (taken_value c.turn)) ≡ bare_of t
    pub tree : MatchOption (rep_of (taken_value c.turn)).hold ⊤ (λ x. IsNewestTree (tree_in x) (notes_of t))

-- a share of the tree of a record that has these notes, and isn't bare
module _ {P : Type 0} where
  pub record IsShareOf (notes : List Noted) (bare : Bool) (x : Share P) : Type 0 where
    pub share : IsShare x
    pub tree : IsNewestTree (tree_in x) notes
    pub some : bare ≡ false
