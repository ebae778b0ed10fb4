-- How a cord gets a record: a slot is reserved, and its record linked; or each slot is in use.
use Rattle.std.specs.Prelude.{ℕ, ◌≡◌, ◌≤◌, false, [], ◌∷◌, Option, Some, None}
use Rattle.node_forest.specs.Label.{Node}
use Rattle.record_rule.specs.declared.values.Note.{Note}
use Rattle.record_rule.specs.declared.views.Claim.TheVariants.{Nothing}
use Rattle.record_rule.specs.declared.views.Deed.TheVariants as deed
use Rattle.record_rule.specs.declared.views.TokenView.{TokenView}
use Rattle.record_rule.specs.Views.{claim_at, HasDone}
use Rattle.cordz_desk.specs.declared.share.Share.{Share}
use Rattle.cordz_desk.specs.declared.tickets.Ticket.{Ticket}
use Rattle.cordz_desk.specs.Owners.{first_note}
use Rattle.cordz_desk.specs.Tickets.{slot_of, stamp_of, notes_of, bare_of}
use Rattle.cordz_desk.specs.Tokens.{deed_at, IsSameBut}
use Rattle.cord_sampled.specs.declared.mark.Mark.{Mark}
use Rattle.cord_sampled.specs.declared.mark.Mark.TheVariants.{Plain, Noted, Full}

-- the pass of a share for which no slot was free ended
abbrev pub ended_by : Mark → ℕ
ended_by (Full in_use) = 1
ended_by mark = 0

module _ {P D : Type 0} {p : _} {d : _} where
  -- a slot was reserved, and the record of this tree linked there with update 0
  pub record IsLinked (t : Ticket P D p d) (note : Note) (e : Node) (a b : TokenView) : Type 0 where
    pub first : ℕ
    pub second : ℕ
    pub own : b.own ≡ deed_at a second (deed.Track (slot_of t)) ∷ deed_at a first (deed.Reserve (slot_of t) (stamp_of t)) ∷ a.own
    pub notes : notes_of t ≡ first_note (stamp_of t) e ∷ []
    pub noted : note ≡ (first_note (stamp_of t) e).note
    pub some : bare_of t ≡ false
    pub positive : 1 ≤ stamp_of t
    pub same : IsSameBut (slot_of t) a b
    pub untracked : b.untracked ≡ a.untracked
    pub claim : claim_at b.claims (slot_of t) ≡ Nothing

  -- there is a ticket exactly where a slot was free
  abbrev pub IsTracked : Option (Ticket P D p d) → Mark → Node → TokenView → TokenView → Type 0
  IsTracked (Some t) (Noted note) e a b = IsLinked t note e a b
  IsTracked None (Full in_use) e a b = (in_use ≡ 256) × HasDone a b deed.Full
  IsTracked t mark e a b = ⊥

  -- where there is no share the cord isn't to be sampled
  abbrev pub IsTrackedIf : Option (Share P) → Option (Ticket P D p d) → Mark → TokenView → TokenView → Type 0
  IsTrackedIf None t mark a b = (t ≡ None) × (mark ≡ Plain) × (b ≡ a)
  IsTrackedIf (Some x) t mark a b = IsTracked t mark x.edge a b
