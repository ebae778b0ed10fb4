-- What is seen of passes.
use Rattle.std.specs.Prelude.{◌≡◌, ◌⊎◌, ℕ, Bool, List, ◌∷◌, MatchOption, Option, None}
use Rattle.std.specs.Bool.{⊤}
use Rattle.turn_desk.specs.Passes.{desk_view}
use Rattle.cordz_core.specs.declared.answers.Settled.{Settled}
use Rattle.cordz_core.specs.declared.answers.Settled.TheVariants.{Deleted, Queued}
use Rattle.record_rule.specs.declared.views.Claim.{Claim}
use Rattle.record_rule.specs.declared.views.Claim.TheVariants.{Cleared}
use Rattle.record_rule.specs.declared.views.Deed.{Deed}
use Rattle.record_rule.specs.declared.views.Deed.TheVariants.{Free, Unlink, Settle}
use Rattle.record_rule.specs.declared.views.DeskView.{DeskView}
use Rattle.record_rule.specs.declared.views.LogEntry.{LogEntry}
use Rattle.record_rule.specs.declared.views.TokenView.{TokenView}
use Rattle.record_rule.specs.declared.views.Noted.{Noted}
use Rattle.record_rule.specs.Views.{claim_at, done, token_in}
use Rattle.record_rule.specs.World.{is_none}
use Rattle.cordz_desk.specs.declared.share.Share.{Share}
use Rattle.cordz_desk.specs.declared.tokens.CordzPass.{CordzPass}
use Rattle.cordz_desk.specs.Owners.{IsNewestTree}
use Rattle.cordz_desk.specs.Shares.{tree_in, IsShare}

module _ {P D : Type 0} where
  -- what a pass knows
  abbrev pub token_of : {p : _} {d : _} → CordzPass P D p d → TokenView
  token_of c = token_in (desk_view c.pass)

  abbrev pub view_of : {p : _} {d : _} → CordzPass P D p d → DeskView
  view_of c = desk_view c.pass

-- the entry of a token's deed at a place
abbrev pub deed_at : TokenView → ℕ → Deed → LogEntry
deed_at p place d = record { by = p.number; place = place; deed = d }

-- one deed more
abbrev pub HasDeed : TokenView → List LogEntry → Deed → Type 0
HasDeed p own d = (place : ℕ) × (own ≡ deed_at p place d ∷ p.own)

-- the same token, with the same claims on other slots, which has read the same and was shown the same
pub record IsSameBut (s : ℕ) (p q : TokenView) : Type 0 where
  pub number : q.number ≡ p.number
  pub claims : (t : ℕ) → (t ≡ s → ⊥) → claim_at q.claims t ≡ claim_at p.claims t
  pub reads : q.reads ≡ p.reads
  pub shown : q.shown ≡ p.shown

-- the slot's record is deleted, and the slot is to be cleared
abbrev pub IsCleared : Claim → Type 0
IsCleared (Cleared known) = Unit {0}
IsCleared _ = ⊥

-- a token that unlinked a record and settled it
abbrev pub HasSettled : TokenView → TokenView → ℕ → Settled → Type 0
HasSettled p q s answer = (first : ℕ) × (second : ℕ) × (q ≡ done second (Settle s answer) (done first (Unlink s) p))

-- a record was given up: of a token before it and its entries after it, the slot, the record's notes and whether it was bare, and its share
module _ {P : Type 0} (p : TokenView) (entries : List LogEntry) (s : ℕ) (notes : List Noted) (bare : Bool) (share : Option (Share P)) where
  -- it was deleted at once, and its share comes back
  pub record WasDeleted : Type 0 where
    pub first : ℕ
    pub second : ℕ
    pub third : ℕ
    pub own : entries ≡ deed_at p third (Free s) ∷ deed_at p second (Settle s Deleted) ∷ deed_at p first (Unlink s) ∷ p.own
    pub none : is_none share ≡ bare
    pub tree : MatchOption share ⊤ (λ x. IsShare x × IsNewestTree (tree_in x) notes)

  -- it waits in the queue with its share
  pub record WasQueued : Type 0 where
    pub first : ℕ
    pub second : ℕ
    pub own : entries ≡ deed_at p second (Settle s Queued) ∷ deed_at p first (Unlink s) ∷ p.own
    pub none : share ≡ None

  abbrev pub IsGivenUp : Type 0
  IsGivenUp = WasDeleted ⊎ WasQueued
