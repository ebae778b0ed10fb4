-- Tokens whose claims on one slot have changed.
use Rattle.std.proofs.Common.{◌≡◌, ◌≢◌, ℕ, List, ◌∷◌, Bool, true, false, cond, None, refl, sym, ap, ◌∙◌, subst, inl, inr, eq-eqb, ne_eqb}
use Rattle.cordz_core.specs.declared.answers.Settled.{Settled}
use Rattle.cordz_core.specs.Queue.{has}
use Rattle.record_rule.specs.declared.views.Claim.{Claim}
use Rattle.record_rule.specs.declared.views.Claim.TheVariants.{Nothing, Promised, Written, Owned, Unlinked, Cleared, Emptied}
use Rattle.record_rule.specs.declared.views.Deed.TheVariants.{Track, Unlink, Settle, Unsnap}
use Rattle.record_rule.specs.declared.views.DeskView.{DeskView}
use Rattle.record_rule.specs.declared.views.DeskView.TheVariants.{Token}
use Rattle.record_rule.specs.declared.views.Noted.{Noted}
use Rattle.record_rule.specs.declared.views.TokenView.{TokenView}
use Rattle.record_rule.specs.Steps.{IsOwned, IsUnlinked, Splits}
use Rattle.record_rule.specs.Views.{claim_at, claiming, done, linked_claim, unlinked_claim, settled_claim, untracked_by}
use Rattle.cordz_desk.specs.Owners.{issuing_view, issued_view}
use Rattle.record_rule.proofs.Sweeps.{claim_left}
use Rattle.cordz_desk.specs.Tokens.{deed_at}

pub claim_here : (s : ℕ) (c : Claim) (cs : List (ℕ × Claim)) → claim_at ((s, c) ∷ cs) s ≡ c
claim_here s c cs = ap (λ b. cond b c (claim_at cs s)) (eq-eqb s s refl)

pub claim_else : (s t : ℕ) (c : Claim) (cs : List (ℕ × Claim)) → t ≢ s → claim_at ((s, c) ∷ cs) t ≡ claim_at cs t
claim_else s t c cs not = ap (λ b. cond b c (claim_at cs t)) (ne_eqb t s not)

-- a slot that an ended snapshot let go
pub let_go : (p q : TokenView) (place w : ℕ) (gone : _) (s : ℕ) → q ≡ done place (Unsnap w gone) p → has s gone.items ≡ true → claim_at q.claims s ≡ Cleared None
let_go p q place w gone s e is = ap (λ (z : TokenView). claim_at z.claims s) e ∙ (claim_left gone.items p.claims s ∙ ap (λ b. cond b (Cleared None) (claim_at p.claims s)) is)

-- a token that wrote a record and tracked it
abbrev pub tracked_token : ℕ → ℕ → List Noted → ℕ → TokenView → TokenView
tracked_token s stamp notes place p = record {
  number = p.number;
  own = deed_at p place (Track s) ∷ p.own;
  claims = (s, Owned stamp notes false) ∷ (s, Written stamp notes) ∷ p.claims;
  reads = p.reads;
  untracked = p.untracked;
  shown = p.shown;
}

pub tracked : (s stamp place : ℕ) (notes : List Noted) (p q : TokenView) → q ≡ done place (Track s) (claiming s (Written stamp notes) p) → q ≡ tracked_token s stamp notes place p
tracked s stamp place notes p q e =
    e ∙ ap (λ (c : Claim). record { number = p.number; own = deed_at p place (Track s) ∷ p.own; claims = (s, linked_claim c) ∷ (s, Written stamp notes) ∷ p.claims; reads = p.reads; untracked = p.untracked; shown = p.shown })
    (claim_here s (Written stamp notes) p.claims)

pub issues_last : (v : DeskView) (s stamp place : ℕ) (notes : List Noted) (p : TokenView) → v ≡ Token (tracked_token s stamp notes place p) → Splits v (issuing_view v) (issued_view v)
issues_last v s stamp place notes p e = subst (λ (z : DeskView). Splits z (issuing_view z) (issued_view z)) (sym e) (inr (inl record {
  token = tracked_token s stamp notes place p;
  slot = s;
  stamp = stamp;
  notes = notes;
  bare = false;
  before = refl;
  claim = claim_here s (Owned stamp notes false) ((s, Written stamp notes) ∷ p.claims);
  kept = refl;
  new = refl;
}))

-- a token that took a ticket, unlinked its record and settled it
abbrev pub settled_token : ℕ → ℕ → List Noted → Bool → Settled → ℕ → ℕ → TokenView → TokenView
settled_token s stamp notes bare answer first second p = record {
  number = p.number;
  own = deed_at p second (Settle s answer) ∷ deed_at p first (Unlink s) ∷ p.own;
  claims = (s, settled_claim answer (Unlinked stamp bare)) ∷ (s, Unlinked stamp bare) ∷ (s, Owned stamp notes bare) ∷ p.claims;
  reads = p.reads;
  untracked = (stamp, notes) ∷ p.untracked;
  shown = p.shown;
}

abbrev unlinked_token : ℕ → ℕ → List Noted → Bool → ℕ → TokenView → TokenView
unlinked_token s stamp notes bare first p = record {
  number = p.number;
  own = deed_at p first (Unlink s) ∷ p.own;
  claims = (s, Unlinked stamp bare) ∷ (s, Owned stamp notes bare) ∷ p.claims;
  reads = p.reads;
  untracked = (stamp, notes) ∷ p.untracked;
  shown = p.shown;
}

pub unlinked : (s stamp first : ℕ) (notes : List Noted) (bare : Bool) (p q : TokenView) → q ≡ done first (Unlink s) (claiming s (Owned stamp notes bare) p) → q ≡ unlinked_token s stamp notes bare first p
unlinked s stamp first notes bare p q e =
    e ∙ ap (λ (c : Claim). record { number = p.number; own = deed_at p first (Unlink s) ∷ p.own; claims = (s, unlinked_claim c) ∷ (s, Owned stamp notes bare) ∷ p.claims; reads = p.reads; untracked = untracked_by c p.untracked; shown = p.shown })
    (claim_here s (Owned stamp notes bare) p.claims)

pub settled : (s stamp first second : ℕ) (notes : List Noted) (bare : Bool) (answer : Settled) (p q r : TokenView) → q ≡ done first (Unlink s) (claiming s (Owned stamp notes bare) p) → r ≡ done second (Settle s answer) q → r ≡ settled_token s stamp notes bare answer first second p
settled s stamp first second notes bare answer p q r e f =
    f ∙ (ap (done second (Settle s answer)) (unlinked s stamp first notes bare p q e)
    ∙ ap (λ (c : Claim). record { number = p.number; own = deed_at p second (Settle s answer) ∷ deed_at p first (Unlink s) ∷ p.own; claims = (s, settled_claim answer c) ∷ (s, Unlinked stamp bare) ∷ (s, Owned stamp notes bare) ∷ p.claims; reads = p.reads; untracked = (stamp, notes) ∷ p.untracked; shown = p.shown })
    (claim_here s (Unlinked stamp bare) ((s, Owned stamp notes bare) ∷ p.claims)))

-- an unlinked record may be settled
pub owned_unlinks : (c : Claim) → IsOwned c → IsUnlinked (unlinked_claim c)
owned_unlinks Nothing k = absurd k
owned_unlinks (Promised a) k = absurd k
owned_unlinks (Written a b) k = absurd k
owned_unlinks (Owned a b d) k = tt
owned_unlinks (Unlinked a b) k = absurd k
owned_unlinks (Cleared a) k = absurd k
owned_unlinks Emptied k = absurd k

pub may_settle : (s first : ℕ) (p q : TokenView) → IsOwned (claim_at p.claims s) → q ≡ done first (Unlink s) p → IsUnlinked (claim_at q.claims s)
may_settle s first p q k e =
    subst (λ (z : TokenView). IsUnlinked (claim_at z.claims s)) (sym e) (subst IsUnlinked (sym (claim_here s (unlinked_claim (claim_at p.claims s)) p.claims)) (owned_unlinks (claim_at p.claims s) k))
