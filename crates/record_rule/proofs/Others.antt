-- What a step of one token leaves to the others.
use Rattle.std.proofs.Common.{◌≡◌, ◌≢◌, ◌⊎◌, ℕ, ◌<◌, ◌≤◌, List, [], ◌∷◌, Bool, false, Option, Some, None, refl, sym, ◌∙◌, subst, inl, inr, ⊎_elim, arith}
use Rattle.record_rule.specs.declared.views.Claim.{Claim}
use Rattle.record_rule.specs.declared.views.Claim.TheVariants.{Nothing, Promised, Written, Owned, Unlinked, Cleared, Emptied}
use Rattle.record_rule.specs.declared.views.Noted.{Noted}
use Rattle.record_rule.specs.declared.views.TokenView.{TokenView}
use Rattle.record_rule.specs.declared.views.DeskView.{DeskView}
use Rattle.record_rule.specs.declared.views.DeskView.TheVariants.{Root, Token, Ticket, Lent}
use Rattle.record_rule.specs.Log.{history, of_token, unlinked_of, is_walking, walk_of}
use Rattle.record_rule.specs.Notes.{IsNoteOf, NoneAbove, ReachesTo, GrowsTo, AllRead, AllShown, AllUntracked}
use Rattle.record_rule.specs.Views.{claim_at}
use Rattle.record_rule.specs.World.{Facts, WalksIf, Has, IsToken, AreTokens, Fits}

-- from one state to the next, by steps of these seats
pub record Grows (touched : ℕ → Type 0) (g k : Facts) : Type 0 where
  pub given : g.given ≤ k.given
  pub root : k.root ≡ g.root
  pub same : (touched g.root → ⊥) → k.given ≡ g.given
  pub seat : (n : ℕ) → n < g.given → (touched (g.seat n) → ⊥) → k.seat n ≡ g.seat n
  pub own : (n : ℕ) → n < g.given → (touched (g.seat n) → ⊥) → of_token n k.log ≡ of_token n g.log
  pub unlinked : (n : ℕ) → n < g.given → (touched (g.seat n) → ⊥) → unlinked_of n k.log ≡ unlinked_of n g.log
  pub claims : (s : ℕ) → g.claims s ≢ Nothing → (touched (g.owner s) → ⊥) → (k.claims s ≡ g.claims s) × (k.owner s ≡ g.owner s)
  pub walk : (n : ℕ) → n < g.given → (touched (g.seat n) → ⊥) → (walking : Bool) (slots : List ℕ) → WalksIf walking g.registry (history g.log) n slots → WalksIf walking k.registry (history k.log) n slots
  pub notes : (stamp : ℕ) → GrowsTo (g.notes stamp) (k.notes stamp)
  pub closed : (stamp : ℕ) → g.live stamp ≡ false → (k.live stamp ≡ false) × (k.notes stamp ≡ g.notes stamp)

pub nothing_or : (c : Claim) → (c ≡ Nothing) ⊎ (c ≢ Nothing)
nothing_or Nothing = inl refl
nothing_or (Promised a) = inr (λ e. cc)
nothing_or (Written a b) = inr (λ e. cc)
nothing_or (Owned a b c) = inr (λ e. cc)
nothing_or (Unlinked a b) = inr (λ e. cc)
nothing_or (Cleared a) = inr (λ e. cc)
nothing_or Emptied = inr (λ e. cc)

note_grows : (n : Noted) (xs ys : List Noted) → GrowsTo xs ys → IsNoteOf n xs → IsNoteOf n ys
note_grows n xs ys (inl e) is = subst (IsNoteOf n) (sym e) is
note_grows n xs ys (inr m) is = subst (IsNoteOf n) (sym m.1) (inr is)

reaches_on : (u : ℕ) (m : Noted) (xs : List Noted) → NoneAbove m.note.update xs → ReachesTo u xs → u ≤ m.note.update
reaches_on u m [] none r = absurd r
reaches_on u m (x ∷ xs) none r = let a = none.0 in omega arith

pub reaches_grows : (u : ℕ) (xs ys : List Noted) → GrowsTo xs ys → ReachesTo u xs → ReachesTo u ys
reaches_grows u xs ys (inl e) is = subst (ReachesTo u) (sym e) is
reaches_grows u xs ys (inr m) is = subst (ReachesTo u) (sym m.1) (reaches_on u m.0 xs m.2 is)

module _ (touched : ℕ → Type 0) (g k : Facts) (grows : Grows touched g k) where
  pub reads_stay : (ns : List Noted) → AllRead g.notes ns → AllRead k.notes ns
  reads_stay [] a = tt
  reads_stay (n ∷ ns) a = (note_grows n (g.notes n.note.stamp) (k.notes n.note.stamp) (grows.notes n.note.stamp) a.0, reads_stay ns a.1)

  pub shown_stay : (us : List (ℕ × ℕ)) → AllShown g.notes us → AllShown k.notes us
  shown_stay [] a = tt
  shown_stay (u ∷ us) a = (reaches_grows u.1 (g.notes u.0) (k.notes u.0) (grows.notes u.0) a.0, shown_stay us a.1)

  pub untracked_stay : (us : List (ℕ × List Noted)) → AllUntracked g.notes g.live us → AllUntracked k.notes k.live us
  untracked_stay [] a = tt
  untracked_stay (u ∷ us) a = let c = grows.closed u.0 a.0 in (c.0, c.1 ∙ a.1, untracked_stay us a.2)

  has_stays : (by s : ℕ) (c : Claim) → (touched by → ⊥) → c ≢ Nothing → Has g by s c → Has k by s c
  has_stays by s c apart some h =
      let e = grows.claims s (λ none. some (sym h.2 ∙ none)) (λ t. apart (subst touched h.1 t)) in
      (h.0, e.1 ∙ h.1, e.0 ∙ h.2)

  pub claims_stay : (by s : ℕ) (c : Claim) → (touched by → ⊥) → (c ≡ Nothing) ⊎ Has g by s c → (c ≡ Nothing) ⊎ Has k by s c
  claims_stay by s c apart (inl e) = inl e
  claims_stay by s c apart (inr h) = ⊎_elim (λ e. inl e) (λ some. inr (has_stays by s c apart some h)) (nothing_or c)

  token_stays : (by : ℕ) (p : TokenView) → (touched by → ⊥) → IsToken g by p → IsToken k by p
  token_stays by p apart t =
      let off : touched (g.seat p.number) → ⊥ = λ z. apart (subst touched t.seat z) in
      let more = grows.given in
      let less = t.given in
      record {
        seat = grows.seat p.number t.given off ∙ t.seat;
        given = omega arith;
        own = grows.own p.number t.given off ∙ t.own;
        claims = λ s. claims_stay by s (claim_at p.claims s) apart (t.claims s);
        walk = grows.walk p.number t.given off (is_walking p.own) (walk_of p.own) t.walk;
        reads = reads_stay p.reads t.reads;
        untracked = untracked_stay p.untracked t.untracked;
        unlinked = t.unlinked ∙ sym (grows.unlinked p.number t.given off);
        shown = shown_stay p.shown t.shown;
      }

  pub tokens_stay : (by : ℕ) (ps : List TokenView) → (touched by → ⊥) → AreTokens g by ps → AreTokens k by ps
  tokens_stay by [] apart t = tt
  tokens_stay by (p ∷ ps) apart t = (token_stays by p apart t.0, tokens_stay by ps apart t.1)

  -- a view of a seat that made no step
  pub stays : (by : ℕ) (v : Option DeskView) → (touched by → ⊥) → Fits g by v → Fits k by v
  stays by None apart f = tt
  stays by (Some (Root given back)) apart f =
      (f.0 ∙ sym grows.root, f.1 ∙ sym (grows.same (λ t. apart (subst touched (sym f.0) t))), tokens_stay by back apart f.2)
  stays by (Some (Token p)) apart f = token_stays by p apart f
  stays by (Some (Ticket s stamp notes bare)) apart f = has_stays by s (Owned stamp notes bare) apart (λ e. cc) f
  stays by (Some Lent) apart f = tt
