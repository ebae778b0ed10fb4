-- What a pass is shown of a cord's record.
use Rattle.std.specs.Prelude.{◌≡◌, Option, Some, None}
use Rattle.record_rule.specs.Notes.{newest_update, NoneLater}
use Rattle.record_rule.specs.declared.views.TokenView.{TokenView}
use Rattle.cordz_desk.specs.declared.tickets.Ticket.{Ticket}
use Rattle.cordz_desk.specs.Reading.{IsShownTo}
use Rattle.cordz_desk.specs.Tickets.{stamp_of, notes_of, IsSameTicket}

module _ {P D : Type 0} {p : _} {d : _} where
  -- it was shown the record's update, and read no later one of it before
  pub record WasShown (t : Ticket P D p d) (a b : TokenView) : Type 0 where
    pub shown : IsShownTo (stamp_of t) (newest_update (notes_of t)) a b
    pub earlier : NoneLater (stamp_of t) (newest_update (notes_of t)) a.reads

  -- of a cord that may have no record
  abbrev pub IsShown : Option (Ticket P D p d) → TokenView → TokenView → Type 0
  IsShown None a b = b ≡ a
  IsShown (Some t) a b = WasShown t a b

  -- no ticket, or one of the same record that knows the same
  abbrev pub IsSameRecord : Option (Ticket P D p d) → Option (Ticket P D p d) → Type 0
  IsSameRecord None None = Unit {0}
  IsSameRecord (Some t) (Some u) = IsSameTicket t u
  IsSameRecord t u = ⊥
