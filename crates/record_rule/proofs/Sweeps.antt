-- The deeds that change no slot, or those of the records that an ended snapshot lets go, as steps under the rule of the desk.
use Rattle.std.proofs.Common.{◌≡◌, ◌⊎◌, ℕ, ◌<◌, ◌+◌, List, [], ◌∷◌, Bool, true, false, cond, set, length, Option, Some, None, refl, sym, ap, ◌∙◌, subst, inl, inr, ⊎_elim, arith, length-set}
use Rattle.std.specs.Prelude.{◌||◌, ◌==◌}
use Rattle.atomic_table.proofs.Lists.{set_else}
use Rattle.node_forest.specs.Label.{Node}
use Rattle.cordz_core.specs.declared.slot.SlotState.{SlotState}
use Rattle.cordz_core.specs.declared.slot.SlotState.TheVariants.{Queued as Waits, Clearing}
use Rattle.cordz_core.specs.Contents.{Contents, state_of}
use Rattle.cordz_core.specs.History.{History, Unsnaps, stamp_in}
use Rattle.cordz_core.specs.Legal.{Replays, IsDeletionOf, state_after}
use Rattle.cordz_core.specs.Queue.{has}
use Rattle.cordz_core.specs.Times.{records, snapshots, record_in}
use Rattle.cordz_core.proofs.Deleting.{deletion_place}
use Rattle.record_rule.specs.declared.values.DeskValue.{DeskValue}
use Rattle.record_rule.specs.declared.values.DeskValue.TheVariants.{List as Lists}
use Rattle.record_rule.specs.declared.values.Rep.{Rep}
use Rattle.record_rule.specs.declared.views.Claim.{Claim}
use Rattle.record_rule.specs.declared.views.Claim.TheVariants.{Nothing, Promised, Written, Owned, Unlinked, Cleared, Emptied}
use Rattle.record_rule.specs.declared.views.Deed.{Deed}
use Rattle.record_rule.specs.declared.views.Deed.TheVariants.{Full, Snap, Unsnap, Head, Next}
use Rattle.record_rule.specs.declared.views.LogEntry.{LogEntry}
use Rattle.record_rule.specs.declared.views.Noted.{Noted}
use Rattle.record_rule.specs.declared.views.TokenView.{TokenView}
use Rattle.record_rule.specs.declared.views.DeskView.{DeskView}
use Rattle.record_rule.specs.declared.views.DeskView.TheVariants.{Token}
use Rattle.record_rule.specs.Log.{after_deed, history, unlinked_by, unlinked_of}
use Rattle.record_rule.specs.Views.{claim_at, done, nothing_left}
use Rattle.record_rule.specs.World.{Facts, Has, IsToken, HasRecord, IsTold, IsSlot, HasSlot, IsWorld}
use Rattle.record_rule.proofs.Acts.{Doing, Done}
use Rattle.record_rule.proofs.Deeds.{deed_room, deed_walk, entry_of, own_entry, follows_entry, tracked_small, waits_by}
use Rattle.record_rule.proofs.Moving.{Follows, all_left_set, set_there, views_next}
use Rattle.record_rule.proofs.Others.{Grows}
use Rattle.record_rule.proofs.Slots.{slot_same}

-- the facts after a deed that clears these slots
abbrev pub swept : Facts → ℕ → List LogEntry → Contents → List ℕ → Facts
swept g by log registry gone = record {
  log = log;
  registry = registry;
  claims = λ t. cond (has t gone) (Cleared None) (g.claims t);
  owner = λ t. cond (has t gone) by (g.owner t);
  seat = g.seat;
  given = g.given;
  root = g.root;
  notes = g.notes;
  live = g.live;
  slot = g.slot;
}

pub claim_left : (gone : List ℕ) (cs : List (ℕ × Claim)) (t : ℕ) → claim_at (nothing_left gone cs) t ≡ cond (has t gone) (Cleared None) (claim_at cs t)
claim_left [] cs t = refl
claim_left (s ∷ ss) cs t = by_test (t == s) (claim_left ss cs t)
  where
    by_test : (b : Bool) → claim_at (nothing_left ss cs) t ≡ cond (has t ss) (Cleared None) (claim_at cs t) → cond b (Cleared None) (claim_at (nothing_left ss cs) t) ≡ cond (b || has t ss) (Cleared None) (claim_at cs t)
    by_test true e = refl
    by_test false e = e

cond_true : {A : Type 0} (b : Bool) (x y : A) → b ≡ true → cond b x y ≡ x
cond_true true x y e = refl
cond_true false x y e = absurd (cc)

cond_false : {A : Type 0} (b : Bool) (x y : A) → b ≡ false → cond b x y ≡ y
cond_false true x y e = absurd (cc)
cond_false false x y e = refl

pub true_or_false : (b : Bool) → (b ≡ true) ⊎ (b ≡ false)
true_or_false true = inl refl
true_or_false false = inr refl

module _ {S : Type 0} (tree_of : S → Node) (fits : S → Type 0) where
  waits_claim : (c : Claim) (state : SlotState) (s stamp at : ℕ) (live : Bool) (notes : List Noted) (r : Rep S) → state ≡ Waits → IsSlot tree_of fits c state s stamp at live notes r → (c ≡ Nothing) × IsSlot tree_of fits (Cleared None) Clearing s stamp at live notes r
  waits_claim Nothing state s stamp at live notes r e (inl k) = absurd (let z = sym k.0 ∙ e in cc)
  waits_claim Nothing state s stamp at live notes r e (inr k) = (refl, (refl, k.1, tt, k.2))
  waits_claim (Promised own) state s stamp at live notes r e k = absurd (let z = sym k.0 ∙ e in cc)
  waits_claim (Written own ns) state s stamp at live notes r e k = absurd (let z = sym k.0 ∙ e in cc)
  waits_claim (Owned own ns bare) state s stamp at live notes r e k = absurd (let z = sym k.0 ∙ e in cc)
  waits_claim (Unlinked own bare) state s stamp at live notes r e k = absurd (let z = sym k.0 ∙ e in cc)
  waits_claim (Cleared bare) state s stamp at live notes r e k = absurd (let z = sym k.0 ∙ e in cc)
  waits_claim Emptied state s stamp at live notes r e k = absurd (let z = sym k.0 ∙ e in cc)

  -- each of these slots waited, and is to be cleared now
  pub record Sweep (r q : Contents) (gone : List ℕ) : Type 0 where
    pub waited : (t : ℕ) → has t gone ≡ true → (t < 256) × (state_of r t ≡ Waits) × (state_of q t ≡ Clearing)
    pub others : (t : ℕ) → has t gone ≡ false → state_of q t ≡ state_of r t

  module _ (g : Facts) (values : List (DeskValue S)) (views : List (Option DeskView)) (by : ℕ) (p : TokenView) (place : ℕ) where
    sweeps : (d : Deed) (q : Contents) (gone : List ℕ) → Doing tree_of fits g values views by p place d q → Sweep g.registry q gone → ((t : ℕ) → stamp_in (after_deed d (history g.log)) t ≡ stamp_in (history g.log) t)
        → ((b : Bool) (h : History) (us : List ℕ) → unlinked_by d b h us ≡ us)
        → done place d p ≡ record { number = p.number; own = entry_of p place d ∷ p.own; claims = nothing_left gone p.claims; reads = p.reads; untracked = p.untracked; shown = p.shown }
        → Done tree_of fits values views by (Token (done place d p)) q
    sweeps d q gone a sweep stamps quiet clauses =
        let log : List LogEntry = entry_of p place d ∷ g.log in
        let k : IsToken g by p = a.world.each by (Some (Token p)) a.seen in
        let f = follows_entry g by p place d q a.world.replays a.world.log a.world.ungiven k a.placed a.replays a.answer a.does in
        let w : TokenView = record { number = p.number; own = entry_of p place d ∷ p.own; claims = nothing_left gone p.claims; reads = p.reads; untracked = p.untracked; shown = p.shown } in
        (Next d q gone, subst (λ (z : TokenView). IsWorld tree_of fits (Next d q gone) (set values 0 (Lists q)) (set views by (Some (Token z)))) (sym clauses) (whole w refl k f))
      where
        Next : Deed → Contents → List ℕ → Facts
        Next d q gone = swept g by (entry_of p place d ∷ g.log) q gone

        nobodys : (t : ℕ) → has t gone ≡ true → g.claims t ≡ Nothing
        nobodys t is = let n = sweep.waited t is in let o = a.world.slots t n.0 in
            (waits_claim (g.claims t) (state_of g.registry t) t (stamp_in (history g.log) t) (g.slot (stamp_in (history g.log) t)) (g.live (stamp_in (history g.log) t)) (g.notes (stamp_in (history g.log) t)) o.rep n.1 o.is).0

        grows : Follows g by (entry_of p place d ∷ g.log) q → Grows (λ j. j ≡ by) g (Next d q gone)
        grows f = record {
          given = (let n : ℕ = g.given in omega arith);
          root = refl;
          same = λ _. refl;
          seat = λ n less apart. refl;
          own = λ n less apart. f.own n less apart;
          unlinked = λ n less apart. f.unlinked n less apart;
          claims = λ t held apart. ⊎_elim (λ is. absurd (held (nobodys t is)))
              (λ not. (cond_false (has t gone) (Cleared None) (g.claims t) not, cond_false (has t gone) by (g.owner t) not)) (true_or_false (has t gone));
          walk = λ n less apart. f.walk n less apart;
          notes = λ t. inl refl;
          closed = λ t shut. (shut, refl);
        }

        claims_after : IsToken g by p → (t : ℕ) → (cond (has t gone) (Cleared None) (claim_at p.claims t) ≡ Nothing) ⊎ Has (Next d q gone) by t (cond (has t gone) (Cleared None) (claim_at p.claims t))
        claims_after k t = ⊎_elim
            (λ is. inr ((sweep.waited t is).0, cond_true (has t gone) by (g.owner t) is, cond_true (has t gone) (Cleared None) (g.claims t) is ∙ sym (cond_true (has t gone) (Cleared None) (claim_at p.claims t) is)))
            (λ not. ⊎_elim (λ none. inl (cond_false (has t gone) (Cleared None) (claim_at p.claims t) not ∙ none))
            (λ h. inr (h.0, cond_false (has t gone) by (g.owner t) not ∙ h.1, cond_false (has t gone) (Cleared None) (g.claims t) not ∙ (h.2 ∙ sym (cond_false (has t gone) (Cleared None) (claim_at p.claims t) not)))) (k.claims t))
            (true_or_false (has t gone))

        kept_on : (t : ℕ) → (g.slot t < 256) × HasRecord (g.claims (g.slot t)) t → (g.slot t < 256) × HasRecord ((Next d q gone).claims (g.slot t)) t
        kept_on t k = (
          k.0,
          ⊎_elim
              (λ is. absurd (subst (λ (z : Claim). HasRecord z t) (nobodys (g.slot t) is) k.1))
              (λ not. subst (λ (z : Claim). HasRecord z t) (sym (cond_false (has (g.slot t) gone) (Cleared None) (g.claims (g.slot t)) not)) k.1)
              (true_or_false (has (g.slot t) gone)),
        )

        told : Follows g by (entry_of p place d ∷ g.log) q → (t : ℕ) → IsTold (Next d q gone) t
        told f t = ⊎_elim
            (λ none. inl none)
            (λ rest. ⊎_elim
            (λ k. inr (inl (kept_on t k)))
            (λ (u : (n : ℕ) × (has t (unlinked_of n g.log) ≡ true)). inr (inr (u.0, f.more u.0 t u.1)))
            rest)
            (a.world.told t)

        slots : (t : ℕ) → t < 256 → HasSlot tree_of fits (Next d q gone) (set values 0 (Lists q)) t
        slots t small = let o = a.world.slots t small in record {
          rep = o.rep;
          at = set_else values 0 (t + 1) (Lists q) (λ e. omega arith) ∙ o.at;
          is = ⊎_elim
              (λ is. let n = sweep.waited t is in
              slot_same tree_of fits (Cleared None) (cond (has t gone) (Cleared None) (g.claims t)) Clearing (state_of q t) t (stamp_in (history g.log) t) (stamp_in (after_deed d (history g.log)) t) _ _ _ _ _ _ o.rep
              (cond_true (has t gone) (Cleared None) (g.claims t) is) n.2 (stamps t) (ap g.slot (stamps t)) (ap g.live (stamps t)) (ap g.notes (stamps t))
              (waits_claim (g.claims t) (state_of g.registry t) t (stamp_in (history g.log) t) (g.slot (stamp_in (history g.log) t)) (g.live (stamp_in (history g.log) t)) (g.notes (stamp_in (history g.log) t)) o.rep n.1 o.is).1)
              (λ not.
              slot_same tree_of fits (g.claims t) (cond (has t gone) (Cleared None) (g.claims t)) (state_of g.registry t) (state_of q t) t (stamp_in (history g.log) t) (stamp_in (after_deed d (history g.log)) t) _ _ _ _ _ _ o.rep
              (cond_false (has t gone) (Cleared None) (g.claims t) not) (sweep.others t not) (stamps t) (ap g.slot (stamps t)) (ap g.live (stamps t)) (ap g.notes (stamps t)) o.is)
              (true_or_false (has t gone));
        }

        whole : (w : TokenView) → w ≡ record { number = p.number; own = entry_of p place d ∷ p.own; claims = nothing_left gone p.claims; reads = p.reads; untracked = p.untracked; shown = p.shown }
            → IsToken g by p → Follows g by (entry_of p place d ∷ g.log) q → IsWorld tree_of fits (Next d q gone) (set values 0 (Lists q)) (set views by (Some (Token w)))
        whole w is k f = subst (λ (z : TokenView). IsWorld tree_of fits (Next d q gone) (set values 0 (Lists q)) (set views by (Some (Token z)))) (sym is) record {
          first = set_there values 0 _ _ a.world.first;
          count = length-set values 0 (Lists q) ∙ a.world.count;
          walkers = f.walkers ∙ a.world.walkers;
          replays = f.replays;
          log = f.logged;
          room = (let total = all_left_set views by (Some (Token p)) (Some (Token (record { number = p.number; own = entry_of p place d ∷ p.own; claims = nothing_left gone p.claims; reads = p.reads; untracked = p.untracked; shown = p.shown }))) a.seen in let had = a.world.room in let more = deed_room d p.own (history g.log) a.few in omega arith);
          slots = slots;
          notes = a.world.notes;
          unborn = λ t later. let more = f.stamps in a.world.unborn t (omega arith);
          told = told f;
          few = a.world.few;
          ungiven = f.ungiven;
          each = views_next g (Next d q gone) views by (Some (Token _)) (grows f) (record {
            seat = k.seat;
            given = k.given;
            own = own_entry p (entry_of p place d) g.log refl ∙ ap (λ l. entry_of p place d ∷ l) k.own;
            claims = λ t. subst (λ (z : Claim). (z ≡ Nothing) ⊎ Has (Next d q gone) by t z) (sym (claim_left gone p.claims t)) (claims_after k t);
            walk = deed_walk d p g.registry q (history g.log) a.world.replays a.answer a.does k.walk;
            reads = k.reads;
            untracked = k.untracked;
            unlinked = k.unlinked ∙ sym (quiet (p.number == p.number) (history g.log) (unlinked_of p.number g.log));
            shown = k.shown;
          }) a.world.each;
        }

    same_states : (q : Contents) → ((t : ℕ) → state_of q t ≡ state_of g.registry t) → Sweep g.registry q []
    same_states q e = record { waited = λ t is. absurd (cc); others = λ t not. e t }

    pub refuses : (q : Contents) → Doing tree_of fits g values views by p place Full q → Done tree_of fits values views by (Token (done place Full p)) q
    refuses q a = sweeps Full q [] a (same_states q (λ t. ap (λ z. state_of z t) a.does)) (λ t. refl) (λ b h us. refl) refl

    pub heads : (answer : Option ℕ) (q : Contents) → Doing tree_of fits g values views by p place (Head answer) q → Done tree_of fits values views by (Token (done place (Head answer) p)) q
    heads answer q a = sweeps (Head answer) q [] a (same_states q (λ t. ap (λ z. state_of z t) a.does.1)) (λ t. refl) (λ b h us. refl) refl

    pub nexts : (s : ℕ) (answer : Option ℕ) (q : Contents) → Doing tree_of fits g values views by p place (Next s answer) q → Done tree_of fits values views by (Token (done place (Next s answer) p)) q
    nexts s answer q a = sweeps (Next s answer) q [] a (same_states q (λ t. ap (λ z. state_of z t) a.does.2)) (λ t. refl) (λ b h us. refl) refl

    pub snaps : (w : ℕ) (q : Contents) → Doing tree_of fits g values views by p place (Snap w) q → Done tree_of fits values views by (Token (done place (Snap w) p)) q
    snaps w q a = sweeps (Snap w) q [] a (same_states q (λ t. a.does.3.states t)) (λ t. refl) (λ b h us. refl) refl

    pub unsnaps : (w : ℕ) (gone : _) (q : Contents) → Doing tree_of fits g values views by p place (Unsnap w gone) q → Done tree_of fits values views by (Token (done place (Unsnap w gone) p)) q
    unsnaps w gone q a = sweeps (Unsnap w gone) q gone.items a (record { waited = waited; others = λ t not. a.does.2.kept t not }) (λ t. refl) (λ b h us. refl) refl
      where
        waited : (t : ℕ) → has t gone.items ≡ true → (t < 256) × (state_of g.registry t ≡ Waits) × (state_of q t ≡ Clearing)
        waited t is =
            let h : History = history g.log in
            let n = (a.answer t).0 is in
            let small = tracked_small g.registry.walkers h t a.world.replays.legal n.0 in
            let before = ((deletion_place q.walkers (Unsnaps w) h t a.replays.legal n.0).1 n.1).before in
            let at = (a.world.replays.entries t small).state in
            (small, at ∙ (ap (λ u. Rattle.cordz_core.specs.Legal.state_for u (record_in (records h) t) (snapshots h) (length h)) n.0 ∙ waits_by (record_in (records h) t) (snapshots h) (snapshots (Unsnaps w ∷ h)) (length (Unsnaps w ∷ h)) (length h) n.1.deleted (λ e. before (ap (λ u. Rattle.cordz_core.specs.Legal.state_for u (record_in (records h) t) (snapshots h) (length h)) n.0 ∙ e))), a.does.2.gone t is)
