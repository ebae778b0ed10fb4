-- An action or a read of the registry, by kind, as a step under the rule of the desk.
use Rattle.std.proofs.Common.{◌≡◌, ◌≢◌, ℕ, ◌<◌, ◌≤◌, ◌+◌, List, [], ◌∷◌, Bool, true, false, cond, set, length, Option, Some, None, refl, sym, ap, ◌∙◌, subst, inl, inr, ⊎_elim, arith, eq-eqb, ne_eqb, length-set}
use mathlib.Core.Option.{some}
use lib.ListN.{get_elem?}
use Rattle.atomic_table.proofs.Lists.{set_else}
use Rattle.node_forest.specs.Label.{Node}
use Rattle.cordz_core.specs.declared.slot.SlotState.{SlotState}
use Rattle.cordz_core.specs.declared.slot.SlotState.TheVariants.{Free as IsFree, Linked, Leaving, Queued as Waits, Clearing}
use Rattle.cordz_core.specs.declared.answers.Settled.{Settled}
use Rattle.cordz_core.specs.declared.answers.Settled.TheVariants.{Deleted, Queued}
use Rattle.cordz_core.specs.Contents.{Contents, state_of}
use Rattle.cordz_core.specs.History.{Reserves, stamp_in, stamps_given}
use Rattle.cordz_core.specs.Legal.{Replays}
use Rattle.cordz_core.specs.Links.{Moves}
use Rattle.cordz_core.specs.Queue.{has}
use Rattle.record_rule.specs.declared.values.DeskValue.{DeskValue}
use Rattle.record_rule.specs.declared.values.DeskValue.TheVariants.{List as Lists, Record}
use Rattle.record_rule.specs.declared.values.Rep.{Rep}
use Rattle.record_rule.specs.declared.views.Claim.{Claim}
use Rattle.record_rule.specs.declared.views.Claim.TheVariants.{Nothing, Promised, Written, Owned, Unlinked, Cleared, Emptied}
use Rattle.record_rule.specs.declared.views.Deed.{Deed}
use Rattle.record_rule.specs.declared.views.Deed.TheVariants.{Reserve, Free, Track, Unlink, Settle}
use Rattle.record_rule.specs.declared.views.LogEntry.{LogEntry}
use Rattle.record_rule.specs.declared.views.Noted.{Noted}
use Rattle.record_rule.specs.declared.views.TokenView.{TokenView}
use Rattle.record_rule.specs.declared.views.DeskView.{DeskView}
use Rattle.record_rule.specs.declared.views.DeskView.TheVariants.{Token}
use Rattle.record_rule.specs.Log.{after_deed, history, IsAnswer, made_of, unlinked_of, is_walking, walk_of}
use Rattle.record_rule.specs.Notes.{AllUntracked, stamps_of}
use Rattle.record_rule.specs.Steps.{Does, MayFree, IsWritten, IsOwned, IsUnlinked}
use Rattle.record_rule.specs.Views.{claim_at, done, linked_claim, unlinked_claim, settled_claim, untracked_by, most_actions}
use Rattle.record_rule.specs.World.{Facts, Has, IsToken, HasRecord, IsSlot, IsWorld}
use Rattle.record_rule.proofs.Deeds.{deed_room, deed_walk, entry_of, own_entry, own_unlinked, has_first, follows_entry}
use Rattle.record_rule.proofs.Moving.{Follows, ToldHere, moved, grows_moved, only_stamp, token_moved, told_still, world_moved, set_there}
use Rattle.record_rule.proofs.Others.{untracked_stay}
use Rattle.record_rule.proofs.Slots.{changed, changed_here, stamp_given}

module _ {S : Type 0} (tree_of : S → Node) (fits : S → Type 0) where
  -- a deed of the token p at the seat `by`
  pub record Doing (g : Facts) (values : List (DeskValue S)) (views : List (Option DeskView)) (by : ℕ) (p : TokenView) (place : ℕ) (d : Deed) (q : Contents) : Type 0 where
    pub world : IsWorld tree_of fits g values views
    pub seen : get_elem? views by ≡ some (Some (Token p))
    pub placed : place ≡ q.clock
    pub few : length (after_deed d []) + made_of p.own ≤ most_actions
    pub replays : Replays (after_deed d (history g.log)) q
    pub answer : IsAnswer d (history g.log)
    pub does : Does d p g.registry q

  abbrev pub Done : List (DeskValue S) → List (Option DeskView) → ℕ → DeskView → Contents → Type 0
  Done values views by w q = (k : Facts) × IsWorld tree_of fits k (set values 0 (Lists q)) (set views by (Some w))

  later_records : (values : List (DeskValue S)) (q : Contents) (t : ℕ) → get_elem? (set values 0 (Lists q)) (t + 1) ≡ get_elem? values (t + 1)
  later_records values q t = set_else values 0 (t + 1) (Lists q) (λ e. omega arith)

  pub free_claim : (c : Claim) (state : SlotState) (s stamp at : ℕ) (live : Bool) (notes : List Noted) (r : Rep S) → state ≡ IsFree → IsSlot tree_of fits c state s stamp at live notes r → (c ≡ Nothing) × (r.hold ≡ None)
  free_claim Nothing state s stamp at live notes r e (inl k) = (refl, k.1)
  free_claim Nothing state s stamp at live notes r e (inr k) = absurd (let z = sym k.0 ∙ e in cc)
  free_claim (Promised own) state s stamp at live notes r e k = absurd (let z = sym k.0 ∙ e in cc)
  free_claim (Written own ns) state s stamp at live notes r e k = absurd (let z = sym k.0 ∙ e in cc)
  free_claim (Owned own ns bare) state s stamp at live notes r e k = absurd (let z = sym k.0 ∙ e in cc)
  free_claim (Unlinked own bare) state s stamp at live notes r e k = absurd (let z = sym k.0 ∙ e in cc)
  free_claim (Cleared bare) state s stamp at live notes r e k = absurd (let z = sym k.0 ∙ e in cc)
  free_claim Emptied state s stamp at live notes r e k = absurd (let z = sym k.0 ∙ e in cc)

  module _ (g : Facts) (values : List (DeskValue S)) (views : List (Option DeskView)) (by : ℕ) (p : TokenView) (place : ℕ) where
    token : (d : Deed) (q : Contents) → Doing g values views by p place d q → IsToken g by p
    token d q a = a.world.each by (Some (Token p)) a.seen

    follows : (d : Deed) (q : Contents) → Doing g values views by p place d q → Follows g by (entry_of p place d ∷ g.log) q
    follows d q a = follows_entry g by p place d q a.world.replays a.world.log a.world.ungiven (token d q a) a.placed a.replays a.answer a.does

    owned : (d : Deed) (q : Contents) → Doing g values views by p place d q → Rattle.record_rule.specs.Log.of_token p.number (entry_of p place d ∷ g.log) ≡ entry_of p place d ∷ p.own
    owned d q a = own_entry p (entry_of p place d) g.log refl ∙ ap (λ l. entry_of p place d ∷ l) (token d q a).own

    pub reserves : (s stamp : ℕ) (q : Contents) → Doing g values views by p place (Reserve s stamp) q → Done values views by (Token (done place (Reserve s stamp) p)) q
    reserves s stamp q a =
        let k = token (Reserve s stamp) q a in
        let f = follows (Reserve s stamp) q a in
        let m = a.does.2 in
        let o = a.world.slots s a.does.0 in
        let free = free_claim (g.claims s) (state_of g.registry s) s (stamp_in (history g.log) s) (g.slot (stamp_in (history g.log) s)) (g.live (stamp_in (history g.log) s)) (g.notes (stamp_in (history g.log) s)) o.rep a.does.1 o.is in
        let new = a.answer in
        let unborn = a.world.unborn stamp (omega arith) in
        let log : List LogEntry = entry_of p place (Reserve s stamp) ∷ g.log in
        let grows = grows_moved g by log q s (Promised stamp) stamp s true [] f (inl free.0) (inl (sym unborn.0)) (λ shut. absurd (let z : true ≡ false = sym unborn.1 ∙ shut in cc)) in
        let here : stamp_in (Reserves s ∷ history g.log) s ≡ stamp = ap (λ b. cond b (stamps_given (history g.log) + 1) (stamp_in (history g.log) s)) (eq-eqb s s refl) ∙ sym new in (
          moved g by log q s (Promised stamp) stamp s true [],
          world_moved tree_of fits g values (set values 0 (Lists q)) views by (Token p) (Token (done place (Reserve s stamp) p)) log q s (Promised stamp) stamp s true [] a.world a.seen f
              (set_there values 0 _ _ a.world.first) (length-set values 0 (Lists q))
              (deed_room (Reserve s stamp) p.own (history g.log) a.few)
              (λ t not. (later_records values q t, m.others t not, ap (λ b. cond b (stamps_given (history g.log) + 1) (stamp_in (history g.log) t)) (ne_eqb t s not)))
              (λ t not same. absurd (let z = stamp_given (history g.log) t in omega arith))
              (record {
                rep = o.rep;
                at = later_records values q s ∙ o.at;
                is = subst (λ (z : Claim). IsSlot tree_of fits z (state_of q s) s (stamp_in (Reserves s ∷ history g.log) s) (changed g.slot stamp s (stamp_in (Reserves s ∷ history g.log) s)) (changed g.live stamp true (stamp_in (Reserves s ∷ history g.log) s)) (changed g.notes stamp [] (stamp_in (Reserves s ∷ history g.log) s)) o.rep)
                    (sym (changed_here g.claims s s (Promised stamp) refl))
                    (m.state, changed_here g.live stamp _ true here, sym here, changed_here g.slot stamp _ s here, changed_here g.notes stamp _ [] here, free.1);
              })
              tt (omega arith) (λ t h. absurd (subst (λ (z : Claim). HasRecord z t) free.0 h)) (inl refl) grows
              (token_moved g by log q s (Promised stamp) stamp s true [] p (entry_of p place (Reserve s stamp) ∷ p.own) p.untracked k grows a.does.0 (owned (Reserve s stamp) q a)
              (deed_walk (Reserve s stamp) p g.registry q (history g.log) a.world.replays a.answer a.does k.walk)
              (untracked_stay (λ j. j ≡ by) g (moved g by log q s (Promised stamp) stamp s true []) grows p.untracked k.untracked) k.unlinked),
        )

    -- a deed on a slot that the token has a claim on
    pub record On (d : Deed) (q : Contents) (s : ℕ) (c : Claim) (lives : Bool) (us : List (ℕ × List Noted)) : Type 0 where
      pub small : s < 256
      pub owner : g.owner s ≡ by
      pub at : g.slot (stamp_in (history g.log) s) ≡ s
      pub shut : g.live (stamp_in (history g.log) s) ≡ false → lives ≡ false
      pub to : SlotState
      pub moves : Moves g.registry q s to
      pub stamps : (t : ℕ) → stamp_in (after_deed d (history g.log)) t ≡ stamp_in (history g.log) t
      pub rep : Rep S
      pub there : get_elem? values (s + 1) ≡ some (Record rep)
      pub is : IsSlot tree_of fits c to s (stamp_in (history g.log) s) (g.slot (stamp_in (history g.log) s)) lives (g.notes (stamp_in (history g.log) s)) rep
      pub untracked : AllUntracked (changed g.notes (stamp_in (history g.log) s) (g.notes (stamp_in (history g.log) s))) (changed g.live (stamp_in (history g.log) s) lives) us
      pub unlinked : stamps_of us ≡ unlinked_of p.number (entry_of p place d ∷ g.log)
      pub told : Follows g by (entry_of p place d ∷ g.log) q → ToldHere g by (entry_of p place d ∷ g.log) q s c (stamp_in (history g.log) s) (g.slot (stamp_in (history g.log) s)) lives (g.notes (stamp_in (history g.log) s))
      pub clauses : done place d p ≡ record { number = p.number; own = entry_of p place d ∷ p.own; claims = (s, c) ∷ p.claims; reads = p.reads; untracked = us; shown = p.shown }

    acts_on : (d : Deed) (q : Contents) (s : ℕ) (c : Claim) (lives : Bool) (us : List (ℕ × List Noted)) → Doing g values views by p place d q
        → On d q s c lives us → Done values views by (Token (done place d p)) q
    acts_on d q s c lives us a on =
        let k = token d q a in
        let f = follows d q a in
        let log : List LogEntry = entry_of p place d ∷ g.log in
        let stamp : ℕ = stamp_in (history g.log) s in
        let list : List Noted = g.notes stamp in
        let at : ℕ = g.slot stamp in
        let grows = grows_moved g by log q s c stamp at lives list f (inr on.owner) (inl refl) (λ shut. (on.shut shut, refl)) in
        let w : TokenView = record { number = p.number; own = entry_of p place d ∷ p.own; claims = (s, c) ∷ p.claims; reads = p.reads; untracked = us; shown = p.shown } in (
          moved g by log q s c stamp at lives list,
          subst (λ (z : TokenView). IsWorld tree_of fits (moved g by log q s c stamp at lives list) (set values 0 (Lists q)) (set views by (Some (Token z)))) (sym on.clauses)
              (world_moved tree_of fits g values (set values 0 (Lists q)) views by (Token p) (Token w) log q s c stamp at lives list a.world a.seen f
              (set_there values 0 _ _ a.world.first) (length-set values 0 (Lists q))
              (deed_room d p.own (history g.log) a.few)
              (λ t not. (later_records values q t, on.moves.others t not, on.stamps t))
              (λ t not same here. not (sym here ∙ on.at))
              (record {
                rep = on.rep;
                at = later_records values q s ∙ on.there;
                is = subst (λ (z : Claim × SlotState × ℕ). IsSlot tree_of fits z.0 z.1 s z.2 (changed g.slot stamp at z.2) (changed g.live stamp lives z.2) (changed g.notes stamp list z.2) on.rep)
                    (λ i. (sym (changed_here g.claims s s c refl) i, sym on.moves.state i, sym (on.stamps s) i))
                    (subst (λ (z : ℕ × Bool × List Noted). IsSlot tree_of fits c on.to s stamp z.0 z.1 z.2 on.rep) (λ i. (sym (changed_here g.slot stamp stamp at refl) i, sym (changed_here g.live stamp stamp lives refl) i, sym (changed_here g.notes stamp stamp list refl) i)) on.is);
              })
              (a.world.notes stamp) (let z = stamp_given (history g.log) s in let y = f.stamps in omega arith) (only_stamp tree_of fits g values views s a.world on.small) (on.told f) grows
              (token_moved g by log q s c stamp at lives list p (entry_of p place d ∷ p.own) us k grows on.small (owned d q a)
              (deed_walk d p g.registry q (history g.log) a.world.replays a.answer a.does k.walk)
              on.untracked on.unlinked)),
        )

    -- the slot of a claim that is not nothing
    mine : (d : Deed) (q : Contents) (s : ℕ) (c : Claim) → Doing g values views by p place d q → claim_at p.claims s ≡ c → c ≢ Nothing → Has g by s c
    mine d q s c a e held = subst (Has g by s) e (⊎_elim (λ none. absurd (held (sym e ∙ none))) (λ h. h) ((token d q a).claims s))

    slot_of : (d : Deed) (q : Contents) (s : ℕ) (c : Claim) → Doing g values views by p place d q → (h : Has g by s c) → (r : Rep S) × (get_elem? values (s + 1) ≡ some (Record r))
        × IsSlot tree_of fits c (state_of g.registry s) s (stamp_in (history g.log) s) (g.slot (stamp_in (history g.log) s)) (g.live (stamp_in (history g.log) s)) (g.notes (stamp_in (history g.log) s)) r
    slot_of d q s c a h = let o = a.world.slots s h.0 in
        (o.rep, o.at, subst (λ (z : Claim). IsSlot tree_of fits z (state_of g.registry s) s (stamp_in (history g.log) s) (g.slot (stamp_in (history g.log) s)) (g.live (stamp_in (history g.log) s)) (g.notes (stamp_in (history g.log) s)) o.rep) h.2 o.is)

    untracked_same : (d : Deed) (q : Contents) (s : ℕ) (c : Claim) (lives : Bool) → Doing g values views by p place d q → Has g by s (claim_at p.claims s) → (g.live (stamp_in (history g.log) s) ≡ false → lives ≡ false)
        → AllUntracked (changed g.notes (stamp_in (history g.log) s) (g.notes (stamp_in (history g.log) s))) (changed g.live (stamp_in (history g.log) s) lives) p.untracked
    untracked_same d q s c lives a h shut =
        let stamp : ℕ = stamp_in (history g.log) s in
        untracked_stay (λ j. j ≡ by) g (moved g by (entry_of p place d ∷ g.log) q s c stamp (g.slot stamp) lives (g.notes stamp))
        (grows_moved g by (entry_of p place d ∷ g.log) q s c stamp (g.slot stamp) lives (g.notes stamp) (follows d q a) (inr h.1) (inl refl) (λ z. (shut z, refl))) p.untracked (token d q a).untracked

    -- where the stamp's notes are after a deed on a slot that has no record which is kept
    still : (d : Deed) (q : Contents) (s : ℕ) (c c' : Claim) (lives : Bool) → Doing g values views by p place d q → Has g by s c → g.slot (stamp_in (history g.log) s) ≡ s → (HasRecord c (stamp_in (history g.log) s) → ⊥)
        → Follows g by (entry_of p place d ∷ g.log) q → ToldHere g by (entry_of p place d ∷ g.log) q s c' (stamp_in (history g.log) s) (g.slot (stamp_in (history g.log) s)) lives (g.notes (stamp_in (history g.log) s))
    still d q s c c' lives a h is none f =
        let stamp : ℕ = stamp_in (history g.log) s in
        told_still g by (entry_of p place d ∷ g.log) q s c' stamp (g.slot stamp) lives f is (λ k. none (subst (λ (z : Claim). HasRecord z stamp) h.2 k)) (a.world.told stamp)

    pub frees : (s : ℕ) (q : Contents) → Doing g values views by p place (Free s) q → (c : Claim) → claim_at p.claims s ≡ c → MayFree c → Done values views by (Token (done place (Free s) p)) q
    frees s q a Nothing e may = absurd may
    frees s q a (Written own ns) e may = absurd may
    frees s q a (Owned own ns bare) e may = absurd may
    frees s q a (Unlinked own bare) e may = absurd may
    frees s q a (Cleared bare) e may = absurd may
    frees s q a (Promised own) e may =
        let h = mine (Free s) q s (Promised own) a e (λ z. cc) in
        let o = slot_of (Free s) q s (Promised own) a h in
        acts_on (Free s) q s Nothing (g.live (stamp_in (history g.log) s)) p.untracked a record {
          small = h.0;
          owner = h.1;
          at = o.2.3;
          shut = λ z. z;
          to = IsFree;
          moves = a.does.1;
          stamps = λ t. refl;
          rep = o.0;
          there = o.1;
          is = inl (refl, o.2.5);
          untracked = untracked_same (Free s) q s Nothing (g.live (stamp_in (history g.log) s)) a (subst (Has g by s) (sym e) h) (λ z. z);
          unlinked = (token (Free s) q a).unlinked;
          told = still (Free s) q s (Promised own) Nothing (g.live (stamp_in (history g.log) s)) a h o.2.3 (λ z. z);
          clauses = refl;
        }
    frees s q a Emptied e may =
        let h = mine (Free s) q s Emptied a e (λ z. cc) in
        let o = slot_of (Free s) q s Emptied a h in
        acts_on (Free s) q s Nothing (g.live (stamp_in (history g.log) s)) p.untracked a record {
          small = h.0;
          owner = h.1;
          at = o.2.1;
          shut = λ z. z;
          to = IsFree;
          moves = a.does.1;
          stamps = λ t. refl;
          rep = o.0;
          there = o.1;
          is = inl (refl, o.2.2);
          untracked = untracked_same (Free s) q s Nothing (g.live (stamp_in (history g.log) s)) a (subst (Has g by s) (sym e) h) (λ z. z);
          unlinked = (token (Free s) q a).unlinked;
          told = still (Free s) q s Emptied Nothing (g.live (stamp_in (history g.log) s)) a h o.2.1 (λ z. z);
          clauses = refl;
        }

    pub tracks : (s : ℕ) (q : Contents) → Doing g values views by p place (Track s) q → (c : Claim) → claim_at p.claims s ≡ c → IsWritten c → Done values views by (Token (done place (Track s) p)) q
    tracks s q a Nothing e may = absurd may
    tracks s q a (Promised own) e may = absurd may
    tracks s q a (Owned own ns bare) e may = absurd may
    tracks s q a (Unlinked own bare) e may = absurd may
    tracks s q a (Cleared bare) e may = absurd may
    tracks s q a Emptied e may = absurd may
    tracks s q a (Written own ns) e may =
        let h = mine (Track s) q s (Written own ns) a e (λ z. cc) in
        let o = slot_of (Track s) q s (Written own ns) a h in
        acts_on (Track s) q s (Owned own ns false) (g.live (stamp_in (history g.log) s)) p.untracked a record {
          small = h.0;
          owner = h.1;
          at = o.2.5.0;
          shut = λ z. z;
          to = Linked;
          moves = a.does.1;
          stamps = λ t. refl;
          rep = o.0;
          there = o.1;
          is = (refl, o.2.1, o.2.2, o.2.3, sym o.2.4, o.2.5);
          untracked = untracked_same (Track s) q s (Owned own ns false) (g.live (stamp_in (history g.log) s)) a (subst (Has g by s) (sym e) h) (λ z. z);
          unlinked = (token (Track s) q a).unlinked;
          told = λ f. inr (inl (o.2.5.0, h.0, o.2.2));
          clauses = ap (λ (z : Claim). record { number = p.number; own = entry_of p place (Track s) ∷ p.own; claims = (s, linked_claim z) ∷ p.claims; reads = p.reads; untracked = p.untracked; shown = p.shown }) e;
        }

    pub unlinks : (s : ℕ) (q : Contents) → Doing g values views by p place (Unlink s) q → (c : Claim) → claim_at p.claims s ≡ c → IsOwned c → Done values views by (Token (done place (Unlink s) p)) q
    unlinks s q a Nothing e may = absurd may
    unlinks s q a (Promised own) e may = absurd may
    unlinks s q a (Written own ns) e may = absurd may
    unlinks s q a (Unlinked own bare) e may = absurd may
    unlinks s q a (Cleared bare) e may = absurd may
    unlinks s q a Emptied e may = absurd may
    unlinks s q a (Owned own ns bare) e may =
        let h = mine (Unlink s) q s (Owned own ns bare) a e (λ z. cc) in
        let o = slot_of (Unlink s) q s (Owned own ns bare) a h in
        let stamp : ℕ = stamp_in (history g.log) s in
        acts_on (Unlink s) q s (Unlinked own bare) false ((own, ns) ∷ p.untracked) a record {
          small = h.0;
          owner = h.1;
          at = o.2.5.0;
          shut = λ z. refl;
          to = Leaving;
          moves = a.does.1;
          stamps = λ t. refl;
          rep = o.0;
          there = o.1;
          is = (refl, refl, o.2.2, o.2.4, o.2.5);
          untracked = (changed_here g.live stamp own false o.2.2, changed_here g.notes stamp own (g.notes stamp) o.2.2 ∙ sym o.2.3, untracked_same (Unlink s) q s (Unlinked own bare) false a (subst (Has g by s) (sym e) h) (λ z. refl));
          unlinked = ap (λ (z : ℕ). z ∷ stamps_of p.untracked) o.2.2 ∙ (ap (λ l. stamp ∷ l) (token (Unlink s) q a).unlinked ∙ sym (own_unlinked p.number s place g.log));
          told = λ f. inr (inr (p.number, subst (λ (z : List ℕ). has stamp z ≡ true) (sym (own_unlinked p.number s place g.log)) (has_first stamp (unlinked_of p.number g.log))));
          clauses = ap (λ (z : Claim). record { number = p.number; own = entry_of p place (Unlink s) ∷ p.own; claims = (s, unlinked_claim z) ∷ p.claims; reads = p.reads; untracked = untracked_by z p.untracked; shown = p.shown }) e;
        }

    pub settles : (s : ℕ) (answer : Settled) (q : Contents) → Doing g values views by p place (Settle s answer) q → (c : Claim) → claim_at p.claims s ≡ c → IsUnlinked c → Done values views by (Token (done place (Settle s answer) p)) q
    settles s answer q a Nothing e may = absurd may
    settles s answer q a (Promised own) e may = absurd may
    settles s answer q a (Written own ns) e may = absurd may
    settles s answer q a (Owned own ns bare) e may = absurd may
    settles s answer q a (Cleared bare) e may = absurd may
    settles s answer q a Emptied e may = absurd may
    settles s Deleted q a (Unlinked own bare) e may =
        let h = mine (Settle s Deleted) q s (Unlinked own bare) a e (λ z. cc) in
        let o = slot_of (Settle s Deleted) q s (Unlinked own bare) a h in
        acts_on (Settle s Deleted) q s (Cleared (Some (own, bare))) (g.live (stamp_in (history g.log) s)) p.untracked a record {
          small = h.0;
          owner = h.1;
          at = o.2.4.0;
          shut = λ z. z;
          to = Clearing;
          moves = a.does.1;
          stamps = λ t. refl;
          rep = o.0;
          there = o.1;
          is = (refl, o.2.1, (o.2.2, o.2.3), o.2.4);
          untracked = untracked_same (Settle s Deleted) q s (Cleared (Some (own, bare))) (g.live (stamp_in (history g.log) s)) a (subst (Has g by s) (sym e) h) (λ z. z);
          unlinked = (token (Settle s Deleted) q a).unlinked;
          told = still (Settle s Deleted) q s (Unlinked own bare) (Cleared (Some (own, bare))) (g.live (stamp_in (history g.log) s)) a h o.2.4.0 (λ z. z);
          clauses = ap (λ (z : Claim). record { number = p.number; own = entry_of p place (Settle s Deleted) ∷ p.own; claims = (s, settled_claim Deleted z) ∷ p.claims; reads = p.reads; untracked = p.untracked; shown = p.shown }) e;
        }
    settles s Queued q a (Unlinked own bare) e may =
        let h = mine (Settle s Queued) q s (Unlinked own bare) a e (λ z. cc) in
        let o = slot_of (Settle s Queued) q s (Unlinked own bare) a h in
        acts_on (Settle s Queued) q s Nothing (g.live (stamp_in (history g.log) s)) p.untracked a record {
          small = h.0;
          owner = h.1;
          at = o.2.4.0;
          shut = λ z. z;
          to = Waits;
          moves = a.does.1;
          stamps = λ t. refl;
          rep = o.0;
          there = o.1;
          is = inr (refl, o.2.1, o.2.4);
          untracked = untracked_same (Settle s Queued) q s Nothing (g.live (stamp_in (history g.log) s)) a (subst (Has g by s) (sym e) h) (λ z. z);
          unlinked = (token (Settle s Queued) q a).unlinked;
          told = still (Settle s Queued) q s (Unlinked own bare) Nothing (g.live (stamp_in (history g.log) s)) a h o.2.4.0 (λ z. z);
          clauses = refl;
        }
