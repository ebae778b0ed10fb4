-- What a cord that goes leaves: its record is given up, and the share that comes back ends.
use Rattle.std.specs.Prelude.{ℕ, ◌≡◌, ◌+◌, [], ◌∷◌, Option, Some, None}
use Rattle.pool_rule.specs.Views.{View}
use Rattle.record_rule.specs.declared.views.Claim.TheVariants.{Nothing}
use Rattle.record_rule.specs.declared.views.TokenView.{TokenView}
use Rattle.record_rule.specs.Views.{claim_at}
use Rattle.cordz_desk.specs.declared.share.Share.{Share}
use Rattle.cordz_desk.specs.declared.tickets.Ticket.{Ticket}
use Rattle.cordz_desk.specs.Tickets.{slot_of, stamp_of, notes_of, bare_of}
use Rattle.cordz_desk.specs.Tokens.{IsSameBut, IsGivenUp}
use Rattle.cord_value.specs.Workers.{Keeps}
use Rattle.cord_sampled.specs.declared.mark.Mark.{Mark}
use Rattle.cord_sampled.specs.declared.mark.Mark.TheVariants.{Plain, Gone}

-- a share has a pass
abbrev pub shares_in : {P : Type 0} → Option (Share P) → ℕ
shares_in None = 0
shares_in (Some x) = 1

module _ {P D : Type 0} {p : _} {d : _} where
  -- The record was unlinked and settled. Where that deleted it its slot was freed, and the share that came back ended with its pass; else the
  -- share waits with the record. So many other passes ended.
  pub record IsGivenBack (limit : ℕ) (t : Ticket P D p d) (others : ℕ) (a b : TokenView) (v w : View) : Type 0 where
    pub share : Option (Share P)
    pub given : IsGivenUp a b.own (slot_of t) (notes_of t) (bare_of t) share
    pub same : IsSameBut (slot_of t) a b
    pub untracked : b.untracked ≡ (stamp_of t, notes_of t) ∷ a.untracked
    pub claim : claim_at b.claims (slot_of t) ≡ Nothing
    pub keeps : Keeps limit [] 0 (shares_in share + others) v w

  -- the same of a cord that may have no record
  abbrev pub IsLeft : ℕ → Option (Ticket P D p d) → ℕ → TokenView → TokenView → View → View → Type 0
  IsLeft limit None others a b v w = (b ≡ a) × Keeps limit [] 0 others v w
  IsLeft limit (Some t) others a b v w = IsGivenBack limit t others a b v w

  abbrev pub gone_mark : Option (Ticket P D p d) → Mark
  gone_mark None = Plain
  gone_mark (Some t) = Gone (stamp_of t)
