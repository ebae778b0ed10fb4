-- What is found at the turn of a slot's record, and what may be done there.
use Rattle.std.proofs.Common.{◌≡◌, ℕ, ◌<◌, ◌≤◌, ◌+◌, List, [], ◌∷◌, map, Bool, false, MatchOption, Option, Some, None, refl, sym, ap, ◌∙◌, subst, inl, inr, ⊎_elim, arith}
use Rattle.std.specs.Bool.{⊤}
use mathlib.Core.Option.{some, some-injective}
use lib.ListN.{get_elem?}
use Rattle.atomic_table.proofs.Lists.{at_map}
use Rattle.node_forest.specs.Label.{Node}
use Rattle.turn_desk.specs.Agreements.{Agreed}
use Rattle.turn_desk.specs.Spots.{home}
use Rattle.cordz_core.specs.Contents.{state_of}
use Rattle.cordz_core.specs.History.{stamp_in}
use Rattle.record_rule.specs.declared.values.DeskValue.{DeskValue}
use Rattle.record_rule.specs.declared.values.DeskValue.TheVariants.{Record}
use Rattle.record_rule.specs.declared.values.Rep.{Rep}
use Rattle.record_rule.specs.declared.views.Claim.{Claim}
use Rattle.record_rule.specs.declared.views.Claim.TheVariants.{Nothing, Promised, Written, Owned, Unlinked, Cleared, Emptied}
use Rattle.record_rule.specs.declared.views.DeskView.{DeskView}
use Rattle.record_rule.specs.declared.views.DeskView.TheVariants.{Token}
use Rattle.record_rule.specs.declared.views.Noted.{Noted}
use Rattle.record_rule.specs.Log.{history}
use Rattle.record_rule.specs.Notes.{AllUntracked, AllShown, AreNotes, ReachesTo, NoneShownLater}
use Rattle.record_rule.specs.Steps.{IsNew, IsKept, Leaves}
use Rattle.record_rule.specs.Views.{claim_at, claiming_view, reading, token_in, IsTokenView}
use Rattle.record_rule.specs.World.{Facts, Has, IsToken, Fits, IsRecord, IsSlot, IsWorld, Stands, value_of, is_none, is_bare, note_of}
use Rattle.record_rule.proofs.Changes.{slot_found, held_record}
use Rattle.cordz_desk.specs.Owners.{slot_in, notes_in, bare_in, newest_note, newest_tree, IsNewest, IsNewestTree, IsTicketView}
use Rattle.cordz_desk.specs.Reps.{rep_of, IsRep, holding}
use Rattle.cordz_desk.specs.Tokens.{IsCleared}

pub cleared_is : (c : Claim) → IsCleared c → (known : Option (ℕ × Bool)) × (c ≡ Cleared known)
cleared_is Nothing k = absurd k
cleared_is (Promised own) k = absurd k
cleared_is (Written own ns) k = absurd k
cleared_is (Owned own ns bare) k = absurd k
cleared_is (Unlinked own bare) k = absurd k
cleared_is (Cleared known) k = (known, refl)
cleared_is Emptied k = absurd k

module _ {S : Type 0} (tree_of : S → Node) (fits : S → Type 0) where
  -- a slot's record at its turn, with all that is so besides
  pub record AtRecord (s : ℕ) (x : DeskValue S) (v : DeskView) : Type 0 where
    pub facts : Facts
    pub values : List (DeskValue S)
    pub views : List (Option DeskView)
    pub seat : ℕ
    pub world : IsWorld tree_of fits facts values views
    pub there : get_elem? values (s + 1) ≡ some x
    pub view : Fits facts seat (Some v)

  pub at_record : (s : ℕ) (x : DeskValue S) (v : DeskView) → Agreed (Stands tree_of fits) (s + 1) (home x) v → AtRecord s x v
  at_record s x v a = record {
    facts = a.3.facts;
    values = map value_of a.0;
    views = a.1;
    seat = a.2;
    world = a.3.world;
    there = at_map value_of a.0 (s + 1) (home x) a.4;
    view = a.3.world.each a.2 (Some v) a.5;
  }

  pub rep_at : (s : ℕ) (x : DeskValue S) (v : DeskView) → AtRecord s x v → s < 256 → IsRep x
  rep_at s x v a small =
      let o = a.world.slots s small in
      let is : Record o.rep ≡ x = some-injective (Record o.rep) x (sym o.at ∙ a.there) in
      subst (λ (z : DeskValue S). IsRep z) is refl

  pub slot_at : (s : ℕ) (x : DeskValue S) (v : DeskView) → (a : AtRecord s x v) → s < 256
      → IsSlot tree_of fits (a.facts.claims s) (state_of a.facts.registry s) s (stamp_in (history a.facts.log) s) (a.facts.slot (stamp_in (history a.facts.log) s)) (a.facts.live (stamp_in (history a.facts.log) s)) (a.facts.notes (stamp_in (history a.facts.log) s)) (rep_of x)
  slot_at s x v a small = slot_found tree_of fits a.facts a.values a.views s (rep_of x) a.world small (a.there ∙ ap some (rep_at s x v a small))

  -- of a claim that a token has, or a ticket
  pub claimed_at : (s : ℕ) (x : DeskValue S) (v : DeskView) (c : Claim) → (a : AtRecord s x v) → Has a.facts a.seat s c
      → IsSlot tree_of fits c (state_of a.facts.registry s) s (stamp_in (history a.facts.log) s) (a.facts.slot (stamp_in (history a.facts.log) s)) (a.facts.live (stamp_in (history a.facts.log) s)) (a.facts.notes (stamp_in (history a.facts.log) s)) (rep_of x)
  claimed_at s x v c a h =
      subst (λ (z : Claim). IsSlot tree_of fits z (state_of a.facts.registry s) s (stamp_in (history a.facts.log) s) (a.facts.slot (stamp_in (history a.facts.log) s)) (a.facts.live (stamp_in (history a.facts.log) s)) (a.facts.notes (stamp_in (history a.facts.log) s)) (rep_of x)) h.2
      (slot_at s x v a h.0)

  pub token_at : (s : ℕ) (x : DeskValue S) (v : DeskView) → (a : AtRecord s x v) → IsTokenView v → IsToken a.facts a.seat (token_in v)
  token_at s x v a is = subst (λ (z : DeskView). Fits a.facts a.seat (Some z)) is a.view

  -- a token writes a record, or takes its share out
  pub writes : (s : ℕ) (x y : DeskValue S) (v : DeskView) (r : Rep S) (n : Noted) → IsRep x → y ≡ Record r → IsTokenView v → claim_at (token_in v).claims s ≡ Promised r.stamp → IsNew tree_of fits r n
      → Leaves tree_of fits (s + 1) x y v (claiming_view s (Written r.stamp (n ∷ [])) v)
  writes s x y v r n is to token claim new = inr (inl record {
    token = token_in v;
    slot = s;
    stamp = r.stamp;
    note = n;
    old = rep_of x;
    new = r;
    at = refl;
    from = is;
    to = to;
    before = token;
    after = refl;
    claim = claim;
    stamped = refl;
    is = new;
  })

  pub drains : (s : ℕ) (x y : DeskValue S) (v : DeskView) → IsRep x → y ≡ Record (holding None (rep_of x)) → IsTokenView v → IsCleared (claim_at (token_in v).claims s)
      → Leaves tree_of fits (s + 1) x y v (claiming_view s Emptied v)
  drains s x y v is to token claim =
      let k = cleared_is (claim_at (token_in v).claims s) claim in
      inr (inr (inl record {
        token = token_in v;
        slot = s;
        bare = k.0;
        old = rep_of x;
        new = holding None (rep_of x);
        at = refl;
        from = is;
        to = to;
        before = token;
        after = refl;
        claim = k.1;
        none = refl;
      }))

  -- the share of a slot's record is one
  none_fits : (o : Option S) → o ≡ None → MatchOption o ⊤ fits
  none_fits None e = tt
  none_fits (Some x) e = absurd (cc)

  some_fits : (o : Option S) (t : Node) → MatchOption o ⊤ (λ x. fits x × (tree_of x ≡ t)) → MatchOption o ⊤ fits
  some_fits None t k = tt
  some_fits (Some x) t k = k.0

  pub fits_of : (c : Claim) (state : Rattle.cordz_core.specs.declared.slot.SlotState.SlotState) (s stamp at : ℕ) (live : Bool) (notes : List Noted) (r : Rep S) → IsSlot tree_of fits c state s stamp at live notes r → MatchOption r.hold ⊤ fits
  fits_of Nothing state s stamp at live notes r (inl k) = none_fits r.hold k.1
  fits_of Nothing state s stamp at live notes r (inr k) = some_fits r.hold k.2.2.newest.tree k.2.2.share
  fits_of (Promised own) state s stamp at live notes r k = none_fits r.hold k.5
  fits_of (Written own ns) state s stamp at live notes r k = some_fits r.hold k.5.2.newest.tree k.5.2.share
  fits_of (Owned own ns bare) state s stamp at live notes r k = some_fits r.hold k.5.2.newest.tree k.5.2.share
  fits_of (Unlinked own bare) state s stamp at live notes r k = some_fits r.hold k.4.2.newest.tree k.4.2.share
  fits_of (Cleared bare) state s stamp at live notes r k = some_fits r.hold k.3.2.newest.tree k.3.2.share
  fits_of Emptied state s stamp at live notes r k = none_fits r.hold k.2

  pub found_fits : (s : ℕ) (r : Rep S) (v : DeskView) → Agreed (Stands tree_of fits) (s + 1) (home (Record r)) v → s < 256 → MatchOption r.hold ⊤ fits
  found_fits s r v found small =
      let a = at_record s (Record r) v found in
      let g = a.facts in
      let stamp : ℕ = stamp_in (history g.log) s in
      fits_of (g.claims s) (state_of g.registry s) s stamp (g.slot stamp) (g.live stamp) (g.notes stamp) r (slot_at s (Record r) v a small)

  newest_of : (r : Rep S) (notes list : List Noted) (o : Option S) → notes ≡ list → (k : IsRecord tree_of fits r list) → MatchOption o ⊤ (λ x. fits x × (tree_of x ≡ k.newest.tree)) → MatchOption o ⊤ (λ x. fits x × IsNewestTree (tree_of x) notes)
  newest_of r notes list None e k m = tt
  newest_of r notes list (Some x) e k m = (m.0, ap newest_tree (e ∙ k.list) ∙ ap Some (sym m.1))

  -- the share of a deleted record of which the token had the ticket
  pub deleted_share : (s stamp : ℕ) (r : Rep S) (v : DeskView) (notes : List Noted) (bare : Bool) (us : List (ℕ × List Noted)) → Agreed (Stands tree_of fits) (s + 1) (home (Record r)) v → IsTokenView v → s < 256
      → claim_at (token_in v).claims s ≡ Cleared (Some (stamp, bare)) → (token_in v).untracked ≡ (stamp, notes) ∷ us → (is_none r.hold ≡ bare) × MatchOption r.hold ⊤ (λ x. fits x × IsNewestTree (tree_of x) notes)
  deleted_share s stamp r v notes bare us found is small claim untracked =
      let a = at_record s (Record r) v found in
      let g = a.facts in
      let t = token_at s (Record r) v a is in
      let h : Has g a.seat s (Cleared (Some (stamp, bare))) = subst (Has g a.seat s) claim (⊎_elim (λ none. absurd (let z : Cleared (Some (stamp, bare)) ≡ Nothing = sym claim ∙ none in cc)) (λ z. z) (t.claims s)) in
      let k = claimed_at s (Record r) v (Cleared (Some (stamp, bare))) a h in
      let u : AllUntracked g.notes g.live ((stamp, notes) ∷ us) = subst (AllUntracked g.notes g.live) untracked t.untracked in
      (sym k.2.1, newest_of r notes (g.notes (stamp_in (history g.log) s)) r.hold (sym u.1 ∙ ap g.notes k.2.0) k.3.2 k.3.2.share)

  -- what a ticket finds
  pub record Owns (r : Rep S) (v : DeskView) : Type 0 where
    pub stamped : r.stamp ≡ Rattle.cordz_desk.specs.Owners.stamp_in v
    pub note : IsNewest (note_of r) (notes_in v)
    pub bare : is_bare r ≡ bare_in v
    pub share : MatchOption r.hold ⊤ (λ x. fits x × IsNewestTree (tree_of x) (notes_in v))

  pub owner_found : (s : ℕ) (r : Rep S) (v : DeskView) → Agreed (Stands tree_of fits) (s + 1) (home (Record r)) v → IsTicketView v → s ≡ slot_in v → Owns r v
  owner_found s r v found is at =
      let a = at_record s (Record r) v found in
      let g = a.facts in
      let c : Claim = Owned (Rattle.cordz_desk.specs.Owners.stamp_in v) (notes_in v) (bare_in v) in
      let h : Has g a.seat s c = subst (λ (z : ℕ). Has g a.seat z c) (sym at) (subst (λ (z : DeskView). Fits g a.seat (Some z)) is a.view) in
      let k = claimed_at s (Record r) v c a h in
      record {
        stamped = k.5.1 ∙ sym k.2;
        note = ap newest_note (k.3 ∙ k.5.2.list) ∙ ap Some k.5.2.note;
        bare = sym k.4;
        share = newest_of r (notes_in v) (g.notes (stamp_in (history g.log) s)) r.hold k.3 k.5.2 k.5.2.share;
      }

  -- a token reads a record, or finds that it can't
  pub reads : (s : ℕ) (x y : DeskValue S) (v : DeskView) (n : Noted) → IsRep x → IsRep y → IsKept tree_of fits (rep_of x) (rep_of y) → is_bare (rep_of y) ≡ false → n.note ≡ note_of (rep_of x)
      → MatchOption (rep_of x).hold ⊥ (λ o. tree_of o ≡ n.tree) → IsTokenView v → s < 256 → Leaves tree_of fits (s + 1) x y v (Token (reading n (token_in v)))
  reads s x y v n from to kept has noted tree token small = inr (inr (inr (inr (inl record {
    token = token_in v;
    slot = s;
    note = n;
    old = rep_of x;
    new = rep_of y;
    at = refl;
    small = small;
    from = from;
    to = to;
    before = token;
    after = refl;
    kept = kept;
    some = has;
    noted = noted;
    tree = tree;
  }))))

  pub passes : (l : ℕ) (x y : DeskValue S) (v : DeskView) → y ≡ x → Leaves tree_of fits l x y v v
  passes l x y v e = inr (inr (inr (inr (inr record { value = e; view = refl }))))

  held_some : (o : Option S) (t : Node) → MatchOption o ⊥ (λ z. tree_of z ≡ t) → is_none o ≡ false
  held_some None t m = absurd m
  held_some (Some z) t m = refl

  held_tree : (o : Option S) (t u : Node) → MatchOption o ⊥ (λ z. tree_of z ≡ t) → MatchOption o ⊤ (λ z. fits z × (tree_of z ≡ u)) → u ≡ t
  held_tree None t u a b = absurd a
  held_tree (Some z) t u a b = sym b.1 ∙ a

  none_shown : (notes : ℕ → List Noted) (stamp update : ℕ) (newest : Noted) (older : List Noted) → notes stamp ≡ newest ∷ older → newest.note.update ≡ update → (us : List (ℕ × ℕ)) → AllShown notes us → NoneShownLater stamp update us
  none_shown notes stamp update newest older e f [] k = tt
  none_shown notes stamp update newest older e f (u ∷ us) k =
      ((λ is. let r : u.1 ≤ newest.note.update = subst (ReachesTo u.1) (ap notes is ∙ e) k.0 in omega arith), none_shown notes stamp update newest older e f us k.1)

  -- what is read is as long as its note says, and isn't older than what was shown
  pub read_found : (s : ℕ) (r : Rep S) (v : DeskView) (t : Node) → Agreed (Stands tree_of fits) (s + 1) (home (Record r)) v → IsTokenView v → s < 256 → MatchOption r.hold ⊥ (λ o. tree_of o ≡ t)
      → (r.length ≡ t.0.length) × NoneShownLater r.stamp r.update (token_in v).shown
  read_found s r v t found is small tree =
      let a = at_record s (Record r) v found in
      let g = a.facts in
      let stamp : ℕ = stamp_in (history g.log) s in
      let k = held_record tree_of fits (g.claims s) (state_of g.registry s) s stamp (g.slot stamp) (g.live stamp) (g.notes stamp) r (held_some r.hold t tree) (slot_at s (Record r) v a small) in
      let n : AreNotes stamp (k.2.newest ∷ k.2.older) = subst (AreNotes stamp) k.2.list (a.world.notes stamp) in
      let same = held_tree r.hold t k.2.newest.tree tree k.2.share in (
        sym (ap (λ z. z.length) k.2.note) ∙ (n.1 ∙ ap (λ (z : Node). z.0.length) same),
        none_shown g.notes r.stamp r.update k.2.newest k.2.older (ap g.notes k.1 ∙ k.2.list) (ap (λ z. z.update) k.2.note) (token_in v).shown (token_at s (Record r) v a is).shown,
      )
