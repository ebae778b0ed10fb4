-- What tokens know, and how a deed, a turn of a record, a split and a merge change that.
use Rattle.std.specs.Prelude.{◌≡◌, ℕ, ◌+◌, ◌-◌, ◌*◌, ◌^◌, ◌==◌, cond, false, List, [], ◌∷◌, Option, Some, None}
use Rattle.cordz_core.specs.declared.answers.Settled.{Settled}
use Rattle.cordz_core.specs.declared.answers.Settled.TheVariants.{Deleted, Queued}
use Rattle.record_rule.specs.declared.views.Claim.{Claim}
use Rattle.record_rule.specs.declared.views.Claim.TheVariants.{Nothing, Promised, Written, Owned, Unlinked, Cleared}
use Rattle.record_rule.specs.declared.views.Deed.{Deed}
use Rattle.record_rule.specs.declared.views.Deed.TheVariants.{Reserve, Free, Track, Unlink, Settle, Unsnap}
use Rattle.record_rule.specs.declared.views.Noted.{Noted}
use Rattle.record_rule.specs.declared.views.TokenView.{TokenView}
use Rattle.record_rule.specs.declared.views.DeskView.{DeskView}
use Rattle.record_rule.specs.declared.views.DeskView.TheVariants.{Root, Token, Ticket, Lent}
use Rattle.record_rule.specs.Log.{made_of}

-- how many actions a token may make, and how many tokens there are at most
abbrev pub most_actions : ℕ
most_actions = 2 ^ 34

abbrev pub most_tokens : ℕ
most_tokens = 17

-- the first claim on a slot
abbrev pub claim_at : List (ℕ × Claim) → ℕ → Claim
claim_at [] s = Nothing
claim_at (c ∷ cs) s = cond (s == c.0) c.1 (claim_at cs s)

-- the token of this number that has done nothing
abbrev pub new_token : ℕ → TokenView
new_token n = record { number = n; own = []; claims = []; reads = []; untracked = []; shown = [] }

-- a token with one claim more, and with one entry more
abbrev pub claiming : ℕ → Claim → TokenView → TokenView
claiming s c p = record p { claims = (s, c) ∷ p.claims }

abbrev pub entering : ℕ → Deed → TokenView → TokenView
entering place d p = record p { own = record { by = p.number; place = place; deed = d } ∷ p.own }

-- a token that read a note, and one that a ticket showed its update
abbrev pub reading : Noted → TokenView → TokenView
reading n p = record p { reads = n ∷ p.reads }

abbrev pub showing : ℕ → ℕ → TokenView → TokenView
showing stamp update p = record p { shown = (stamp, update) ∷ p.shown }

abbrev pub nothing_left : List ℕ → List (ℕ × Claim) → List (ℕ × Claim)
nothing_left [] cs = cs
nothing_left (s ∷ ss) cs = (s, Cleared None) ∷ nothing_left ss cs

-- the claim on a slot after a deed
abbrev pub linked_claim : Claim → Claim
linked_claim (Written stamp notes) = Owned stamp notes false
linked_claim c = c

abbrev pub unlinked_claim : Claim → Claim
unlinked_claim (Owned stamp notes bare) = Unlinked stamp bare
unlinked_claim c = c

abbrev pub settled_claim : Settled → Claim → Claim
settled_claim Deleted (Unlinked stamp bare) = Cleared (Some (stamp, bare))
settled_claim Deleted c = c
settled_claim Queued c = Nothing

-- what an unlinked record's claim adds to the lists of untracked tickets
abbrev pub untracked_by : Claim → List (ℕ × List Noted) → List (ℕ × List Noted)
untracked_by (Owned stamp notes bare) us = (stamp, notes) ∷ us
untracked_by c us = us

-- what a deed does to claims, and to the lists of untracked tickets
abbrev pub claims_after : Deed → List (ℕ × Claim) → List (ℕ × Claim)
claims_after (Reserve s stamp) cs = (s, Promised stamp) ∷ cs
claims_after (Free s) cs = (s, Nothing) ∷ cs
claims_after (Track s) cs = (s, linked_claim (claim_at cs s)) ∷ cs
claims_after (Unlink s) cs = (s, unlinked_claim (claim_at cs s)) ∷ cs
claims_after (Settle s answer) cs = (s, settled_claim answer (claim_at cs s)) ∷ cs
claims_after (Unsnap w gone) cs = nothing_left gone.items cs
claims_after _ cs = cs

abbrev pub untracked_after : Deed → List (ℕ × Claim) → List (ℕ × List Noted) → List (ℕ × List Noted)
untracked_after (Unlink s) cs us = untracked_by (claim_at cs s) us
untracked_after _ cs us = us

-- a token after a deed at a place
abbrev pub done : ℕ → Deed → TokenView → TokenView
done place d p = record (entering place d p) { claims = claims_after d p.claims; untracked = untracked_after d p.claims p.untracked }

-- how many actions are left to a view
abbrev pub left_of : Option DeskView → ℕ
left_of None = 0
left_of (Some (Root given back)) = (most_tokens - given) * most_actions
left_of (Some (Token p)) = most_actions - made_of p.own
left_of (Some (Ticket s stamp notes bare)) = 0
left_of (Some Lent) = 0

abbrev pub all_left : List (Option DeskView) → ℕ
all_left [] = 0
all_left (v ∷ vs) = left_of v + all_left vs

-- what a token knows, by its view
abbrev pub token_in : DeskView → TokenView
token_in (Token p) = p
token_in (Root given back) = new_token 0
token_in (Ticket s stamp notes bare) = new_token 0
token_in Lent = new_token 0

-- a view after a deed at a place, and after a change of a claim
abbrev pub done_view : ℕ → Deed → DeskView → DeskView
done_view place d v = Token (done place d (token_in v))

abbrev pub claiming_view : ℕ → Claim → DeskView → DeskView
claiming_view s c v = Token (claiming s c (token_in v))

-- a token's view
abbrev pub IsTokenView : DeskView → Type 0
IsTokenView v = v ≡ Token (token_in v)

-- one deed more
abbrev pub HasDone : TokenView → TokenView → Deed → Type 0
HasDone p q d = (place : ℕ) × (q ≡ done place d p)
