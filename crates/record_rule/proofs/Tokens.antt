-- Tokens that are given, divided and joined.
use Rattle.std.proofs.Common.{◌≡◌, ◌≢◌, ◌⊎◌, ℕ, zero, suc, ◌<◌, ◌+◌, List, [], ◌∷◌, ◌++◌, Bool, true, false, cond, eqb, set, length, Option, Some, None, refl, sym, ap, ◌∙◌, subst, inl, inr, ⊎_elim, arith, eq-eqb, ne_eqb, length-set}
use mathlib.Core.Logic.{dite}
use native.Mathlib.Decide.{ℕ_discrete}
use mathlib.Core.Option.{some, some-injective, some-ne-none}
use lib.ListN.{get_elem?}
use Rattle.atomic_table.proofs.Lists.{at_set, set_else}
use Rattle.node_forest.specs.Label.{Node}
use Rattle.record_rule.specs.declared.values.DeskValue.{DeskValue}
use Rattle.record_rule.specs.declared.views.Claim.{Claim}
use Rattle.record_rule.specs.declared.views.Claim.TheVariants.{Nothing, Owned}
use Rattle.record_rule.specs.declared.views.Noted.{Noted}
use Rattle.record_rule.specs.declared.views.TokenView.{TokenView}
use Rattle.record_rule.specs.declared.views.DeskView.{DeskView}
use Rattle.record_rule.specs.declared.views.DeskView.TheVariants.{Root, Token, Ticket, Lent}
use Rattle.record_rule.specs.Notes.{ReachesTo, newest_update}
use Rattle.record_rule.specs.Views.{claim_at, claiming, showing, new_token, left_of, most_tokens}
use Rattle.record_rule.specs.World.{Facts, Has, IsToken, AreTokens, Fits, IsRecord, IsSlot, HasSlot, IsWorld}
use Rattle.record_rule.proofs.Deeds.{unlinked_none}
use Rattle.record_rule.proofs.Moving.{all_left_set, all_left_more, views_next}
use Rattle.record_rule.proofs.Others.{Grows, stays}
use Rattle.record_rule.proofs.Slots.{changed, changed_here, changed_else}

at_end : {A : Type 0} (xs : List A) (b u : A) (j n : ℕ) → length xs ≡ n → get_elem? (xs ++ b ∷ []) j ≡ some u → (get_elem? xs j ≡ some u) ⊎ ((j ≡ n) × (b ≡ u))
at_end [] b u zero n len e = inr (len, some-injective b u e)
at_end [] b u (suc j) n len e = absurd (some-ne-none u (sym e))
at_end (x ∷ xs) b u zero n len e = inl e
at_end (x ∷ xs) b u (suc j) n len e = ⊎_elim (λ t. inl t) (λ (t : (j ≡ length xs) × (b ≡ u)). inr (ap suc t.0 ∙ len, t.1)) (at_end xs b u j (length xs) refl e)

-- the views after a split
split_views : (g k : Facts) (views : List (Option DeskView)) (by : ℕ) (a b : Option DeskView) → Grows (λ j. j ≡ by) g k → Fits k by a → Fits k (length views) b → ((j : ℕ) (v : Option DeskView) → get_elem? views j ≡ some v → Fits g j v)
    → (j : ℕ) (v : Option DeskView) → get_elem? (set views by a ++ b ∷ []) j ≡ some v → Fits k j v
split_views g k views by a b grows kept new each j v e = ⊎_elim
    (λ t. views_next g k views by a grows kept each j v t)
    (λ (t : (j ≡ length views) × (b ≡ v)). subst (λ (z : ℕ × Option DeskView). Fits k z.0 z.1) (λ i. (sym t.0 i, t.1 i)) new)
    (at_end (set views by a) b v j (length views) (length-set views by a) e)

-- and after a merge
merge_views : (g k : Facts) (views : List (Option DeskView)) (by other : ℕ) (w : Option DeskView) → Grows (λ j. (j ≡ by) ⊎ (j ≡ other)) g k → Fits k by w → ((j : ℕ) (v : Option DeskView) → get_elem? views j ≡ some v → Fits g j v)
    → (j : ℕ) (v : Option DeskView) → get_elem? (set (set views by w) other None) j ≡ some v → Fits k j v
merge_views g k views by other w grows mine each j v e = ⊎_elim
    (λ (t : (j ≡ other) × (None ≡ v)). subst (λ (z : Option DeskView). Fits k j z) t.1 tt)
    (λ (t : (j ≢ other) × (get_elem? (set views by w) j ≡ some v)). ⊎_elim
    (λ (u : (j ≡ by) × (w ≡ v)). subst (λ (z : ℕ × Option DeskView). Fits k z.0 z.1) (λ i. (sym u.0 i, u.1 i)) mine)
    (λ (u : (j ≢ by) × (get_elem? views j ≡ some v)). stays (λ i. (i ≡ by) ⊎ (i ≡ other)) g k grows j v (λ h. ⊎_elim u.0 t.0 h) (each j v u.1))
    (at_set views by j w v t.1))
    (at_set (set views by w) other j None v e)

-- the seat `other` is joined to `by`
abbrev pub seat_after : ℕ → ℕ → ℕ → ℕ
seat_after by other j = cond (eqb j other) by j

abbrev pub joined : Facts → ℕ → ℕ → Facts
joined g by other = record {
  log = g.log;
  registry = g.registry;
  claims = g.claims;
  owner = λ t. seat_after by other (g.owner t);
  seat = λ n. seat_after by other (g.seat n);
  given = g.given;
  root = g.root;
  notes = g.notes;
  live = g.live;
  slot = g.slot;
}

seat_else : (by other j : ℕ) → j ≢ other → seat_after by other j ≡ j
seat_else by other j not = ap (λ b. cond b by j) (ne_eqb j other not)

seat_both : (by other j i : ℕ) → (i ≡ by) ⊎ (i ≡ other) → j ≡ i → seat_after by other j ≡ by
seat_both by other j i (inr e) is = ap (λ b. cond b by j) (eq-eqb j other (is ∙ e))
seat_both by other j i (inl e) is = by_test (eqb j other)
  where
    by_test : (b : Bool) → cond b by j ≡ by
    by_test true = refl
    by_test false = is ∙ e

joined_grows : (g : Facts) (by other : ℕ) → other ≢ by → Grows (λ j. (j ≡ by) ⊎ (j ≡ other)) g (joined g by other)
joined_grows g by other apart = record {
  given = (let n : ℕ = g.given in omega arith);
  root = refl;
  same = λ _. refl;
  seat = λ n less off. seat_else by other (g.seat n) (λ e. off (inr e));
  own = λ n less off. refl;
  unlinked = λ n less off. refl;
  claims = λ s held off. (refl, seat_else by other (g.owner s) (λ e. off (inr e)));
  walk = λ n less off walking slots w. w;
  notes = λ t. inl refl;
  closed = λ t shut. (shut, refl);
}

has_joined : (g : Facts) (by other i s : ℕ) (c : Claim) → (i ≡ by) ⊎ (i ≡ other) → Has g i s c → Has (joined g by other) by s c
has_joined g by other i s c at h = (h.0, seat_both by other (g.owner s) i at h.1, h.2)

token_joined : (g : Facts) (by other i : ℕ) (p : TokenView) → (i ≡ by) ⊎ (i ≡ other) → IsToken g i p → IsToken (joined g by other) by p
token_joined g by other i p at k = record {
  seat = seat_both by other (g.seat p.number) i at k.seat;
  given = k.given;
  own = k.own;
  claims = λ s. ⊎_elim (λ none. inl none) (λ h. inr (has_joined g by other i s (claim_at p.claims s) at h)) (k.claims s);
  walk = k.walk;
  reads = k.reads;
  untracked = k.untracked;
  unlinked = k.unlinked;
  shown = k.shown;
}

tokens_joined : (g : Facts) (by other : ℕ) (ps : List TokenView) → AreTokens g by ps → AreTokens (joined g by other) by ps
tokens_joined g by other [] k = tt
tokens_joined g by other (p ∷ ps) k = (token_joined g by other by p (inl refl) k.0, tokens_joined g by other ps k.1)

-- a token that has a claim more
claim_more : (g : Facts) (by s : ℕ) (p : TokenView) (c : Claim) → IsToken g by p → Has g by s c → IsToken g by (claiming s c p)
claim_more g by s p c k h = record {
  seat = k.seat;
  given = k.given;
  own = k.own;
  claims = λ t. dite (ℕ_discrete t s)
      (λ is. inr (subst (λ (z : ℕ × Claim). Has g by z.0 z.1) (λ i. (sym is i, sym (ap (λ b. cond b c (claim_at p.claims t)) (eq-eqb t s is)) i)) h))
      (λ not. subst (λ (z : Claim). (z ≡ Nothing) ⊎ Has g by t z) (sym (ap (λ b. cond b c (claim_at p.claims t)) (ne_eqb t s not))) (k.claims t));
  walk = k.walk;
  reads = k.reads;
  untracked = k.untracked;
  unlinked = k.unlinked;
  shown = k.shown;
}

-- the first token gives another
abbrev seated : Facts → ℕ → Facts
seated g new = record {
  log = g.log;
  registry = g.registry;
  claims = g.claims;
  owner = g.owner;
  seat = changed g.seat g.given new;
  given = g.given + 1;
  root = g.root;
  notes = g.notes;
  live = g.live;
  slot = g.slot;
}

tokens_seated : (g : Facts) (by new : ℕ) (ps : List TokenView) → AreTokens g by ps → AreTokens (seated g new) by ps
tokens_seated g by new [] k = tt
tokens_seated g by new (p ∷ ps) k = (
  record {
    seat = changed_else g.seat g.given p.number new (λ e. let n = k.0.given in omega arith) ∙ k.0.seat;
    given = (let n = k.0.given in omega arith);
    own = k.0.own;
    claims = k.0.claims;
    walk = k.0.walk;
    reads = k.0.reads;
    untracked = k.0.untracked;
    unlinked = k.0.unlinked;
    shown = k.0.shown;
  },
  tokens_seated g by new ps k.1,
)

-- a ticket goes to a seat of its own
abbrev issued : Facts → ℕ → ℕ → Facts
issued g s new = record {
  log = g.log;
  registry = g.registry;
  claims = g.claims;
  owner = changed g.owner s new;
  seat = g.seat;
  given = g.given;
  root = g.root;
  notes = g.notes;
  live = g.live;
  slot = g.slot;
}

issued_grows : (g : Facts) (by s new : ℕ) → g.owner s ≡ by → Grows (λ j. j ≡ by) g (issued g s new)
issued_grows g by s new is = record {
  given = (let n : ℕ = g.given in omega arith);
  root = refl;
  same = λ off. refl;
  seat = λ n less off. refl;
  own = λ n less off. refl;
  unlinked = λ n less off. refl;
  claims = λ t held off. (refl, changed_else g.owner s t new (λ e. off (ap g.owner e ∙ is)));
  walk = λ n less off walking slots w. w;
  notes = λ t. inl refl;
  closed = λ t shut. (shut, refl);
}

module _ {S : Type 0} (tree_of : S → Node) (fits : S → Type 0) where
  abbrev pub Split : List (DeskValue S) → List (Option DeskView) → ℕ → DeskView → DeskView → Type 0
  Split values views by a b = (k : Facts) × IsWorld tree_of fits k values (set views by (Some a) ++ Some b ∷ [])

  abbrev pub Merge : List (DeskValue S) → List (Option DeskView) → ℕ → ℕ → DeskView → Type 0
  Merge values views by other both = (k : Facts) × IsWorld tree_of fits k values (set (set views by (Some both)) other None)

  same_slot : (g k : Facts) (values : List (DeskValue S)) (s : ℕ) → k.log ≡ g.log → k.registry ≡ g.registry → k.claims ≡ g.claims → k.notes ≡ g.notes → k.live ≡ g.live → k.slot ≡ g.slot → HasSlot tree_of fits g values s → HasSlot tree_of fits k values s
  same_slot g k values s a b c d e f o = record {
    rep = o.rep;
    at = o.at;
    is = subst (λ (z : List Rattle.record_rule.specs.declared.views.LogEntry.LogEntry × Rattle.cordz_core.specs.Contents.Contents × (ℕ → Claim) × (ℕ → List Noted) × (ℕ → Bool) × (ℕ → ℕ)).
        Rattle.record_rule.specs.World.IsSlot tree_of fits (z.2 s) (Rattle.cordz_core.specs.Contents.state_of z.1 s) s (Rattle.cordz_core.specs.History.stamp_in (Rattle.record_rule.specs.Log.history z.0) s)
        (z.5 (Rattle.cordz_core.specs.History.stamp_in (Rattle.record_rule.specs.Log.history z.0) s)) (z.4 (Rattle.cordz_core.specs.History.stamp_in (Rattle.record_rule.specs.Log.history z.0) s)) (z.3 (Rattle.cordz_core.specs.History.stamp_in (Rattle.record_rule.specs.Log.history z.0) s)) o.rep)
        (λ i. (sym a i, sym b i, sym c i, sym d i, sym e i, sym f i)) o.is;
  }

  pub gives : (g : Facts) (values : List (DeskValue S)) (views : List (Option DeskView)) (by given : ℕ) (back : List TokenView) → IsWorld tree_of fits g values views → get_elem? views by ≡ some (Some (Root given back)) → given < most_tokens
      → Split values views by (Root (given + 1) back) (Token (new_token given))
  gives g values views by given back world seen few =
      let k = world.each by (Some (Root given back)) seen in
      let new : ℕ = length views in
      let u = world.ungiven given (let e = k.1 in omega arith) in
      let total = all_left_set views by (Some (Root given back)) (Some (Root (given + 1) back)) seen in
      let more = all_left_more (set views by (Some (Root (given + 1) back))) (Some (Token (new_token given))) in
      let had = world.room in
      let is = k.1 in
      let grows : Grows (λ j. j ≡ by) g (seated g new) = record {
        given = (let n : ℕ = g.given in omega arith);
        root = refl;
        same = λ off. absurd (off (sym k.0));
        seat = λ n less off. changed_else g.seat g.given n new (λ e. omega arith);
        own = λ n less off. refl;
        unlinked = λ n less off. refl;
        claims = λ s held off. (refl, refl);
        walk = λ n less off walking slots w. w;
        notes = λ t. inl refl;
        closed = λ t shut. (shut, refl);
      } in (
        seated g new,
        record {
          first = world.first;
          count = world.count;
          walkers = world.walkers;
          replays = world.replays;
          log = world.log;
          room = omega arith;
          slots = λ s small. same_slot g (seated g new) values s refl refl refl refl refl refl (world.slots s small);
          notes = world.notes;
          unborn = world.unborn;
          told = world.told;
          few = (let n = few in omega arith);
          ungiven = λ n over. world.ungiven n (omega arith);
          each = split_views g (seated g new) views by (Some (Root (given + 1) back)) (Some (Token (new_token given))) grows
              (k.0, ap (λ (n : ℕ). n + 1) k.1, tokens_seated g by new back k.2)
              (record {
                seat = changed_here g.seat g.given given new k.1;
                given = omega arith;
                own = u.0;
                claims = λ s. inl refl;
                walk = u.1;
                reads = tt;
                untracked = tt;
                unlinked = sym (unlinked_none given g.log u.0);
                shown = tt;
              })
              world.each;
        },
      )

  pub issues : (g : Facts) (values : List (DeskValue S)) (views : List (Option DeskView)) (by s stamp : ℕ) (notes : List Noted) (bare : Bool) (p : TokenView) → IsWorld tree_of fits g values views → get_elem? views by ≡ some (Some (Token p)) → claim_at p.claims s ≡ Owned stamp notes bare
      → Split values views by (Token (claiming s Nothing p)) (Ticket s stamp notes bare)
  issues g values views by s stamp notes bare p world seen claim =
      let k : IsToken g by p = world.each by (Some (Token p)) seen in
      let new : ℕ = length views in
      let h : Has g by s (Owned stamp notes bare) = subst (Has g by s) claim (⊎_elim (λ none. absurd (let z : Owned stamp notes bare ≡ Nothing = sym claim ∙ none in cc)) (λ z. z) (k.claims s)) in
      let total = all_left_set views by (Some (Token p)) (Some (Token (claiming s Nothing p))) seen in
      let more = all_left_more (set views by (Some (Token (claiming s Nothing p)))) (Some (Ticket s stamp notes bare)) in
      let had = world.room in
      let grows : Grows (λ j. j ≡ by) g (issued g s new) = issued_grows g by s new h.1 in (
        issued g s new,
        record {
          first = world.first;
          count = world.count;
          walkers = world.walkers;
          replays = world.replays;
          log = world.log;
          room = omega arith;
          slots = λ t small. same_slot g (issued g s new) values t refl refl refl refl refl refl (world.slots t small);
          notes = world.notes;
          unborn = world.unborn;
          told = world.told;
          few = world.few;
          ungiven = world.ungiven;
          each = split_views g (issued g s new) views by (Some (Token (claiming s Nothing p))) (Some (Ticket s stamp notes bare)) grows
              (record {
                seat = k.seat;
                given = k.given;
                own = k.own;
                claims = λ t. dite (ℕ_discrete t s)
                    (λ is. inl (ap (λ b. cond b Nothing (claim_at p.claims t)) (eq-eqb t s is)))
                    (λ not. subst (λ (z : Claim). (z ≡ Nothing) ⊎ Has (issued g s new) by t z) (sym (ap (λ b. cond b Nothing (claim_at p.claims t)) (ne_eqb t s not)))
                    (⊎_elim (λ none. inl none) (λ z. inr (z.0, changed_else g.owner s t new not ∙ z.1, z.2)) (k.claims t)));
                walk = k.walk;
                reads = k.reads;
                untracked = k.untracked;
                unlinked = k.unlinked;
                shown = k.shown;
              })
              (h.0, changed_here g.owner s s new refl, h.2)
              world.each;
        },
      )

  joins : (g : Facts) (values : List (DeskValue S)) (views : List (Option DeskView)) (by other : ℕ) (v w both : DeskView) → IsWorld tree_of fits g values views → get_elem? views by ≡ some (Some v) → other ≢ by → get_elem? views other ≡ some (Some w)
      → left_of (Some both) ≡ left_of (Some v) → Fits (joined g by other) by (Some both) → Merge values views by other both
  joins g values views by other v w both world seen apart seen' left fitting =
      let total = all_left_set views by (Some v) (Some both) seen in
      let total' = all_left_set (set views by (Some both)) other (Some w) None (set_else views by other (Some both) apart ∙ seen') in
      let had = world.room in
      let is = left in (
        joined g by other,
        record {
          first = world.first;
          count = world.count;
          walkers = world.walkers;
          replays = world.replays;
          log = world.log;
          room = omega arith;
          slots = λ t small. same_slot g (joined g by other) values t refl refl refl refl refl refl (world.slots t small);
          notes = world.notes;
          unborn = world.unborn;
          told = world.told;
          few = world.few;
          ungiven = world.ungiven;
          each = merge_views g (joined g by other) views by other (Some both) (joined_grows g by other apart) fitting world.each;
        },
      )

  pub returns : (g : Facts) (values : List (DeskValue S)) (views : List (Option DeskView)) (by other given : ℕ) (back : List TokenView) (p : TokenView) → IsWorld tree_of fits g values views → get_elem? views by ≡ some (Some (Root given back)) → other ≢ by → get_elem? views other ≡ some (Some (Token p))
      → Merge values views by other (Root given (p ∷ back))
  returns g values views by other given back p world seen apart seen' =
      let k = world.each by (Some (Root given back)) seen in
      let t = world.each other (Some (Token p)) seen' in
      joins g values views by other (Root given back) (Token p) (Root given (p ∷ back)) world seen apart seen' refl
      (k.0, k.1, (token_joined g by other other p (inr refl) t, tokens_joined g by other back k.2))

  pub redeems : (g : Facts) (values : List (DeskValue S)) (views : List (Option DeskView)) (by other s stamp : ℕ) (notes : List Noted) (bare : Bool) (p : TokenView) → IsWorld tree_of fits g values views → get_elem? views by ≡ some (Some (Token p)) → other ≢ by → get_elem? views other ≡ some (Some (Ticket s stamp notes bare))
      → Merge values views by other (Token (claiming s (Owned stamp notes bare) p))
  redeems g values views by other s stamp notes bare p world seen apart seen' =
      let k = world.each by (Some (Token p)) seen in
      let t = world.each other (Some (Ticket s stamp notes bare)) seen' in
      joins g values views by other (Token p) (Ticket s stamp notes bare) (Token (claiming s (Owned stamp notes bare) p)) world seen apart seen' refl
      (claim_more (joined g by other) by s p (Owned stamp notes bare) (token_joined g by other by p (inl refl) k) (has_joined g by other other s (Owned stamp notes bare) (inr refl) t))

  pub lends : (g : Facts) (values : List (DeskValue S)) (views : List (Option DeskView)) (by s stamp : ℕ) (notes : List Noted) (bare : Bool) → IsWorld tree_of fits g values views → get_elem? views by ≡ some (Some (Ticket s stamp notes bare))
      → Split values views by Lent (Ticket s stamp notes bare)
  lends g values views by s stamp notes bare world seen =
      let new : ℕ = length views in
      let h : Has g by s (Owned stamp notes bare) = world.each by (Some (Ticket s stamp notes bare)) seen in
      let total = all_left_set views by (Some (Ticket s stamp notes bare)) (Some Lent) seen in
      let more = all_left_more (set views by (Some Lent)) (Some (Ticket s stamp notes bare)) in
      let had = world.room in (
        issued g s new,
        record {
          first = world.first;
          count = world.count;
          walkers = world.walkers;
          replays = world.replays;
          log = world.log;
          room = omega arith;
          slots = λ t small. same_slot g (issued g s new) values t refl refl refl refl refl refl (world.slots t small);
          notes = world.notes;
          unborn = world.unborn;
          told = world.told;
          few = world.few;
          ungiven = world.ungiven;
          each = split_views g (issued g s new) views by (Some Lent) (Some (Ticket s stamp notes bare)) (issued_grows g by s new h.1)
              tt
              (h.0, changed_here g.owner s s new refl, h.2)
              world.each;
        },
      )

  newest_reaches : (r : Rattle.record_rule.specs.declared.values.Rep.Rep S) (notes : List Noted) → IsRecord tree_of fits r notes → ReachesTo (newest_update notes) notes
  newest_reaches r notes k = subst (λ (z : List Noted). ReachesTo (newest_update z) z) (sym k.list) (let n : ℕ = k.newest.note.update in omega arith)

  owned_reaches : (g : Facts) (values : List (DeskValue S)) (views : List (Option DeskView)) (by s stamp : ℕ) (notes : List Noted) (bare : Bool) → IsWorld tree_of fits g values views → Has g by s (Owned stamp notes bare) → ReachesTo (newest_update notes) (g.notes stamp)
  owned_reaches g values views by s stamp notes bare world h =
      let o = world.slots s h.0 in
      let at : ℕ = Rattle.cordz_core.specs.History.stamp_in (Rattle.record_rule.specs.Log.history g.log) s in
      let f = subst (λ (z : Claim). IsSlot tree_of fits z (Rattle.cordz_core.specs.Contents.state_of g.registry s) s at (g.slot at) (g.live at) (g.notes at) o.rep) h.2 o.is in
      subst (λ (z : List Noted × ℕ). ReachesTo (newest_update notes) (g.notes z.1)) (λ i. (notes, sym f.2 i))
      (subst (λ (z : List Noted). ReachesTo (newest_update z) (g.notes at)) (sym f.3) (newest_reaches o.rep (g.notes at) f.5.2))

  pub sees : (g : Facts) (values : List (DeskValue S)) (views : List (Option DeskView)) (by other s stamp : ℕ) (notes : List Noted) (bare : Bool) (p : TokenView) → IsWorld tree_of fits g values views → get_elem? views by ≡ some (Some (Token p)) → other ≢ by → get_elem? views other ≡ some (Some (Ticket s stamp notes bare))
      → Merge values views by other (Token (showing stamp (newest_update notes) (claiming s (Owned stamp notes bare) p)))
  sees g values views by other s stamp notes bare p world seen apart seen' =
      let k = world.each by (Some (Token p)) seen in
      let t = world.each other (Some (Ticket s stamp notes bare)) seen' in
      let c = claim_more (joined g by other) by s p (Owned stamp notes bare) (token_joined g by other by p (inl refl) k) (has_joined g by other other s (Owned stamp notes bare) (inr refl) t) in
      joins g values views by other (Token p) (Ticket s stamp notes bare) (Token (showing stamp (newest_update notes) (claiming s (Owned stamp notes bare) p))) world seen apart seen' refl
      (record {
        seat = c.seat;
        given = c.given;
        own = c.own;
        claims = c.claims;
        walk = c.walk;
        reads = c.reads;
        untracked = c.untracked;
        unlinked = c.unlinked;
        shown = (owned_reaches g values views other s stamp notes bare world t, c.shown);
      })

  pub fills : (g : Facts) (values : List (DeskValue S)) (views : List (Option DeskView)) (by other s stamp : ℕ) (notes : List Noted) (bare : Bool) → IsWorld tree_of fits g values views → get_elem? views by ≡ some (Some Lent) → other ≢ by → get_elem? views other ≡ some (Some (Ticket s stamp notes bare))
      → Merge values views by other (Ticket s stamp notes bare)
  fills g values views by other s stamp notes bare world seen apart seen' =
      let t = world.each other (Some (Ticket s stamp notes bare)) seen' in
      joins g values views by other Lent (Ticket s stamp notes bare) (Ticket s stamp notes bare) world seen apart seen' refl
      (has_joined g by other other s (Owned stamp notes bare) (inr refl) t)
