-- A ticket that is shown to a token.
use Rattle.std.proofs.Common.{◌≡◌, ℕ, ◌≤◌, List, [], ◌∷◌, Some, refl, sym, ap, ◌∙◌, subst, inl, inr, ⊎_elim, arith}
use mathlib.Core.Logic.{dite}
use native.Mathlib.Decide.{ℕ_discrete}
use Rattle.node_forest.specs.Label.{Node}
use Rattle.turn_desk.specs.Agreements.{AgreedBoth}
use Rattle.cordz_core.specs.Contents.{state_of}
use Rattle.cordz_core.specs.History.{stamp_in as slot_stamp}
use Rattle.record_rule.specs.declared.views.Claim.{Claim}
use Rattle.record_rule.specs.declared.views.Claim.TheVariants.{Nothing, Owned}
use Rattle.record_rule.specs.declared.views.DeskView.{DeskView}
use Rattle.record_rule.specs.declared.views.Noted.{Noted}
use Rattle.record_rule.specs.Log.{history}
use Rattle.record_rule.specs.Notes.{newest_update, IsNoteOf, AreNotes, AllRead, NoneAbove, NoneLater}
use Rattle.record_rule.specs.Views.{claim_at, token_in, IsTokenView}
use Rattle.record_rule.specs.World.{Facts, Has, IsToken, Fits, IsSlot, Stands}
use Rattle.cordz_desk.specs.Owners.{slot_in, stamp_in, notes_in, bare_in, IsTicketView, seeing_view, issuing_view}
use Rattle.cordz_desk.specs.Reading.{IsShownTo}
use Rattle.cordz_desk.proofs.Claims.{claim_here, claim_else}

within_all : (u : ℕ) (n : Noted) (ns : List Noted) → NoneAbove u ns → IsNoteOf n ns → n.note.update ≤ u
within_all u n [] k is = absurd is
within_all u n (m ∷ ms) k (inl e) = let a = k.0 in let b = ap (λ z. z.note.update) e in omega arith
within_all u n (m ∷ ms) k (inr is) = within_all u n ms k.1 is

within_notes : (stamp : ℕ) (n : Noted) (ns : List Noted) → AreNotes stamp ns → IsNoteOf n ns → n.note.update ≤ newest_update ns
within_notes stamp n [] k is = absurd is
within_notes stamp n (m ∷ ms) k (inl e) = let b = ap (λ z. z.note.update) e in omega arith
within_notes stamp n (m ∷ ms) k (inr is) = within_all m.note.update n ms k.2 is

none_later : (notes : ℕ → List Noted) (stamp : ℕ) (list : List Noted) → list ≡ notes stamp → AreNotes stamp (notes stamp) → (reads : List Noted) → AllRead notes reads → NoneLater stamp (newest_update list) reads
none_later notes stamp list e a [] k = tt
none_later notes stamp list e a (n ∷ ns) k =
    ((λ is. subst (λ (z : List Noted). n.note.update ≤ newest_update z) (sym e) (within_notes stamp n (notes stamp) a (subst (λ (z : ℕ). IsNoteOf n (notes z)) is k.0))), none_later notes stamp list e a ns k.1)

module _ {S : Type 0} (tree_of : S → Node) (fits : S → Type 0) where
  -- the token has no claim on the ticket's slot, and has read no later note
  pub shown_apart : (v w : DeskView) → AgreedBoth (Stands tree_of fits) v w → IsTokenView v → IsTicketView w
      → (claim_at (token_in v).claims (slot_in w) ≡ Nothing) × NoneLater (stamp_in w) (newest_update (notes_in w)) (token_in v).reads
  shown_apart v w a isv isw =
      let g : Facts = a.4.facts in
      let world = a.4.world in
      let s : ℕ = slot_in w in
      let c : Claim = Owned (stamp_in w) (notes_in w) (bare_in w) in
      let t : IsToken g a.2 (token_in v) = subst (λ (z : DeskView). Fits g a.2 (Some z)) isv (world.each a.2 (Some v) a.5) in
      let h : Has g a.3 s c = subst (λ (z : DeskView). Fits g a.3 (Some z)) isw (world.each a.3 (Some w) a.6) in
      let o = world.slots s h.0 in
      let at : ℕ = slot_stamp (history g.log) s in
      let k : IsSlot tree_of fits c (state_of g.registry s) s at (g.slot at) (g.live at) (g.notes at) o.rep = subst (λ (z : Claim). IsSlot tree_of fits z (state_of g.registry s) s at (g.slot at) (g.live at) (g.notes at) o.rep) h.2 o.is in (
        ⊎_elim (λ none. none) (λ m. absurd (a.7 (sym h.1 ∙ m.1))) (t.claims s),
        none_later g.notes (stamp_in w) (notes_in w) (k.3 ∙ ap g.notes (sym k.2)) (world.notes (stamp_in w)) (token_in v).reads t.reads,
      )

pub shows : (v w a b : DeskView) → a ≡ seeing_view v w → b ≡ issuing_view a → claim_at (token_in v).claims (slot_in w) ≡ Nothing → IsShownTo (stamp_in w) (newest_update (notes_in w)) (token_in v) (token_in b)
shows v w a b e f none = subst (λ (z : DeskView). IsShownTo (stamp_in w) (newest_update (notes_in w)) (token_in v) (token_in z)) (sym (f ∙ ap issuing_view e)) record {
  number = refl;
  own = refl;
  claims = λ t. dite (ℕ_discrete t s)
      (λ is. subst (λ (z : ℕ). claim_at ((s, Nothing) ∷ (s, c) ∷ (token_in v).claims) z ≡ claim_at (token_in v).claims z) (sym is) (claim_here s Nothing ((s, c) ∷ (token_in v).claims) ∙ sym none))
      (λ not. claim_else s t Nothing ((s, c) ∷ (token_in v).claims) not ∙ claim_else s t c (token_in v).claims not);
  reads = refl;
  untracked = refl;
  shown = refl;
}
  where
    s : ℕ
    s = slot_in w

    c : Claim
    c = Owned (stamp_in w) (notes_in w) (bare_in w)
