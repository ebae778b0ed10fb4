-- Each step of a token is a step of the count rule's world, and keeps the rule.
use Rattle.std.proofs.Common.{◌≡◌, ◌≢◌, ◌⊎◌, inl, inr, ⊎_elim, ℕ, ◌+◌, ◌-◌, ◌*◌, ◌^◌, ◌<◌, ◌≤◌, true, false, List, [], ◌∷◌, ◌++◌, length, map, get_or, refl, sym, ◌∙◌, ap, subst, arith, set, length-set, get_or-set_other}
use Rattle.std.specs.Prelude.{Option, Some, IsSome, option_to_list}
use mathlib.Core.Option.{some}
use lib.ListN.{get_elem?}
use Rattle.atomic_table.specs.Table.{State, keeps, stepped}
use Rattle.node_forest.specs.Forest.{children, nodes_of}
use Rattle.node_forest.specs.Label.{Node, number}
use Rattle.node_forest.specs.Members.{In, Occurs}
use Rattle.node_forest.specs.Counts.{first}
use Rattle.node_forest.proofs.Members.{root_occurs}
use Rattle.count_core.specs.Views.{AreHeld, without, without_all, passed_on}
use Rattle.count_core.specs.Steps.{Step, take, share, leave, look, counted, uncounted, Does, changed, word_at, holds_at, roots}
use Rattle.count_core.specs.Worlds.{IsSound}
use Rattle.count_core.proofs.Around.{seen_occurs}
use Rattle.count_core.proofs.Counting.{has_holder}
use Rattle.count_core.proofs.Moves.{step_sound, sound_of}
use Rattle.pool_rule.specs.Views.{View, taking, noting, sharing, leaving, releasing}
use Rattle.pool_rule.specs.Rules.{holds_of, world, Among, IsTaken, IsSane, Ruled}
use Rattle.pool_rule.proofs.Taken.{among_split, taken_set, full_set, used_set}
use Rattle.pool_rule.proofs.Worlds.{at_lt, held_at, length-rooms, narrow-roots, rooms_set, passes_set, overs_set, spares_set, overs_le, sane_set, world_stepped, word_world, width_world, places_world, word_again, world_live}
use Rattle.pool_rule.proofs.Holds.{first_only, holders_le}

-- what a step that counts no pass leaves
abbrev pub Steady : View → View → Type 0
Steady v w = (w.room ≡ v.room) × (w.passes ≡ v.passes) × (w.over ≡ v.over) × (w.spare ≡ v.spare)

module _ {S : Type 0} (k : ℕ) (s : State S View) (id : ℕ) (v : View) (r : Ruled k s) (at : get_elem? s.views id ≡ some v) where
  trees : List Node
  trees = roots (map holds_of s.views)

  pub seen : (x : Node) → Occurs x v.holds → Occurs x (roots (map holds_of s.views))
  seen x o = seen_occurs (map holds_of s.views) id x (let l = at_lt s.views id v at in let p = places_world k s in omega arith)
      (subst (λ (hs : List Node). Occurs x hs) (sym (held_at s.views id v at)) o)

  -- in the token's trees there is one node for each number
  pub same_seen : (t u : Node) → Occurs t v.holds → Occurs u v.holds → number t ≡ number u → t ≡ u
  same_seen t u i j e = r.sound.agreed t u (seen t i) (seen u j) e

  pub same_held : (t u : Node) → In t v.holds → In u v.holds → number t ≡ number u → t ≡ u
  same_held t u i j e = same_seen t u (root_occurs t v.holds i) (root_occurs u v.holds j) e

  pub low : (t : Node) → Occurs t v.holds → number t < k
  low t o = let f = r.sound.fitting t (seen t o) in let w = width_world k s r.width in omega arith

  pub first_held : (t : Node) → In t v.holds → first (number t) v.holds ≡ Some t
  first_held t i = first_only t v.holds i (λ u j e. same_held u t j i e)

  pub first_seen : (t : Node) → Occurs t v.holds → first (number t) (nodes_of v.holds) ≡ Some t
  first_seen t o = first_only t (nodes_of v.holds) o (λ u j e. same_seen u t j o e)

  -- the number of a tree that the token sees has a holder
  pub word_some : (t : Node) → Occurs t v.holds → 1 ≤ get_or s.words (number t) 0
  word_some t o =
      let c = sound_of (world k s) r.sound in
      let l = low t o in
      let w = width_world k s r.width in
      let h = has_holder (length (world k s).words) t (roots (map holds_of s.views)) r.sound.agreed r.sound.fitting (seen t o) in
      let e = c.counted (number t) (omega arith) in
      let f = word_world k s (number t) l in
      omega arith

  pub live_low : get_or s.words k 0 ≤ 2 ^ 18 + 64
  live_low = let a = r.low in let b = overs_le k s.views r.sane in let c = r.spares in omega arith

  pub word_low : k ≤ 2 ^ 18 → (n : ℕ) → n < k → get_or s.words n 0 < 2 ^ 32
  word_low small n l =
      let c = sound_of (world k s) r.sound in
      let w = width_world k s r.width in
      let e = c.counted n (omega arith) in
      let f = word_world k s n l in
      let size : ℕ = length (world k s).words in
      let b = holders_le size (roots (map holds_of s.views)) (narrow-roots k s.views r.sane) n in
      let a = length-rooms k s.views r.sane in
      let d = r.rooms in
      let few = live_low in
      let times : size * 6 ≡ k * 6 = ap (λ (z : ℕ). z * 6) w in
      omega arith

  place : (n : ℕ) → n < k → n < length (world k s).words
  place n l = let w = width_world k s r.width in omega arith

  pub is_view : id < length (world k s).views
  is_view = let a = at_lt s.views id v at in let p = places_world k s in omega arith

  -- ---- the steps
  pub take_does : (t : Node) (c : List (ℕ × S)) → number t < k → get_or s.words (number t) 0 ≡ 0 → AreHeld (children t) v.holds
      → Does (take id (number t) t) (world k s) true (world k (stepped s (number t) 1 id c (taking t v) keeps))
  take_does t c l free held =
      let holds = held_at s.views id v at in
      let word : word_at (world k s) (number t) ≡ 0 = word_world k s (number t) l ∙ free in
      let one : 1 ≡ word_at (world k s) (number t) + 1 = omega arith in (
        record {
          view = is_view;
          place = place (number t) l;
          root = refl;
          free = word;
          edges = subst (λ (hs : List Node). AreHeld (children t) hs) (sym holds) held;
        },
        world_stepped k s id (number t) 1 (taking t v) c l
            ∙ (λ i. changed (world k s) (number t) (one i) id (without_all (children t) (sym holds i) ++ t ∷ [])),
      )

  pub share_does : (t : Node) (c : List (ℕ × S)) (m : ℕ) → k ≤ 2 ^ 18 → Occurs t v.holds → m ≡ get_or s.words (number t) 0 + 1
      → Does (share id (number t)) (world k s) true (world k (stepped s (number t) m id c (sharing t v) keeps))
  share_does t c m small o up =
      let l = low t o in
      let holds = held_at s.views id v at in
      let found : first (number t) (nodes_of (holds_at (world k s) id)) ≡ Some t = ap (λ (hs : List Node). first (number t) (nodes_of hs)) holds ∙ first_seen t o in
      let word = word_world k s (number t) l in
      let bound = word_low small (number t) l in
      let more : m ≡ word_at (world k s) (number t) + 1 = omega arith in (
        record {
          view = is_view;
          place = place (number t) l;
          seen = subst (λ (x : Option Node). IsSome x) (sym found) refl;
          room = omega arith;
        },
        world_stepped k s id (number t) m (sharing t v) c l
            ∙ (λ i. changed (world k s) (number t) (more i) id (sym holds i ++ option_to_list (sym found i))),
      )

  pub leave_does : (t : Node) (w : View) (c : List (ℕ × S)) (m : ℕ) → w.holds ≡ (leaving (get_or s.words (number t) 0) t v).holds → In t v.holds → m ≡ get_or s.words (number t) 0 - 1
      → Does (leave id (number t)) (world k s) true (world k (stepped s (number t) m id c w keeps))
  leave_does t w c m same h down =
      let l = low t (root_occurs t v.holds h) in
      let holds = held_at s.views id v at in
      let found : first (number t) (holds_at (world k s) id) ≡ Some t = ap (λ (hs : List Node). first (number t) hs) holds ∙ first_held t h in
      let word = word_world k s (number t) l in
      let less : m ≡ word_at (world k s) (number t) - 1 = down ∙ ap (λ (z : ℕ). z - 1) (sym word) in (
        record { view = is_view; place = place (number t) l; held = subst (λ (x : Option Node). IsSome x) (sym found) refl },
        world_stepped k s id (number t) m w c l
            ∙ (λ i. changed (world k s) (number t) m id (same i))
            ∙ (λ i. changed (world k s) (number t) (less i) id (without (number t) (sym holds i) ++ passed_on (sym word i) (sym found i))),
      )

  -- a load, and a take that is refused, change neither the word nor the holds
  pub idle_world : (n m : ℕ) (w : View) (c : List (ℕ × S)) → n < k → m ≡ get_or s.words n 0 → w.holds ≡ v.holds → world k (stepped s n m id c w keeps) ≡ world k s
  idle_world n m w c l same holds =
      world_stepped k s id n m w c l ∙ word_again k s id v n m w.holds at l same holds

  pub refused_does : (t : Node) (c : List (ℕ × S)) → number t < k → get_or s.words (number t) 0 ≢ 0
      → Does (take id (number t) t) (world k s) false (world k (stepped s (number t) (get_or s.words (number t) 0) id c (noting (number t) v) keeps))
  refused_does t c l some_ = (λ can. some_ (sym (word_world k s (number t) l) ∙ can.free), idle_world (number t) (get_or s.words (number t) 0) (noting (number t) v) c l refl refl)

  pub look_does : (t : Node) (w : View) (c : List (ℕ × S)) → w.holds ≡ v.holds → Occurs t v.holds
      → Does (look id (number t)) (world k s) true (world k (stepped s (number t) (get_or s.words (number t) 0) id c w keeps))
  look_does t w c same o =
      let l = low t o in
      let found : first (number t) (nodes_of (holds_at (world k s) id)) ≡ Some t = ap (λ (hs : List Node). first (number t) (nodes_of hs)) (held_at s.views id v at) ∙ first_seen t o in (
        record { view = is_view; place = place (number t) l; seen = subst (λ (x : Option Node). IsSome x) (sym found) refl },
        idle_world (number t) (get_or s.words (number t) 0) w c l refl same,
      )

  -- ---- what keeps the rule
  live_stays : (n m : ℕ) → n < k → get_or (set s.words n m) k 0 ≡ get_or s.words k 0
  live_stays n m l = let ne : k ≢ n = (λ e. omega arith) in get_or-set_other s.words n k m 0 ne

  pub does_ruled : (x : Step) (n m : ℕ) (w : View) (c : List (ℕ × S)) → Does x (world k s) true (world k (stepped s n m id c w keeps)) → IsSane k w → Steady v w
      → n < k → ((j : ℕ) → Among j v.taken → Among j w.taken) → (m ≢ 0 → (get_or s.words n 0 ≢ 0) ⊎ Among n w.taken) → w.full ≡ v.full → Ruled k (stepped s n m id c w keeps)
  does_ruled x n m w c does sane room l keep some_ full = record {
    width = length-set s.words n m ∙ r.width;
    sound = subst IsSound (sym does.1) (step_sound x (world k s) r.sound does.0);
    sane = sane_set k s.views id w r.sane sane;
    rooms = let e = live_stays n m l in let h = room.0 in let q = rooms_set s.views id v w at in let d = r.rooms in omega arith;
    live = let e = live_stays n m l in let h = room.1 in let q = passes_set s.views id v w at in let d = r.live in omega arith;
    low = let e = live_stays n m l in let h = room.2 in let q = overs_set s.views id v w at in let d = r.low in omega arith;
    spares = let h = room.3 in let q = spares_set s.views id v w at in let d = r.spares in omega arith;
    used = used_set s.views id v w at k s.words n m (let a = r.width in omega arith) keep some_ r.used;
    full = λ j u. ⊎_elim (λ a. taken_set s.views id v w at j (keep j) (r.full j a)) (λ b. absurd b)
        (full_set s.views id v w at {X = ⊥} j (λ a. inl (subst (λ (z : List ℕ). Among j z) full a)) u);
  }

  pub idle_ruled : (n m : ℕ) (w : View) (c : List (ℕ × S)) → world k (stepped s n m id c w keeps) ≡ world k s → IsSane k w → Steady v w
      → n < k → get_or s.words n 0 ≢ 0 → w.taken ≡ v.taken → w.full ≡ v.full ++ n ∷ [] → Ruled k (stepped s n m id c w keeps)
  idle_ruled n m w c same sane room l some_ taken full = record {
    width = length-set s.words n m ∙ r.width;
    sound = subst IsSound (sym same) r.sound;
    sane = sane_set k s.views id w r.sane sane;
    rooms = let e = live_stays n m l in let h = room.0 in let q = rooms_set s.views id v w at in let d = r.rooms in omega arith;
    live = let e = live_stays n m l in let h = room.1 in let q = passes_set s.views id v w at in let d = r.live in omega arith;
    low = let e = live_stays n m l in let h = room.2 in let q = overs_set s.views id v w at in let d = r.low in omega arith;
    spares = let h = room.3 in let q = spares_set s.views id v w at in let d = r.spares in omega arith;
    used = used_set s.views id v w at k s.words n m (let a = r.width in omega arith) keep (λ _. inl some_) r.used;
    full = λ j u. taken_set s.views id v w at j (keep j) (⊎_elim (r.full j) (λ b. b)
        (full_set s.views id v w at {X = IsTaken j s.views} j (λ a. from j (among_split j v.full (n ∷ []) (subst (λ (z : List ℕ). Among j z) full a))) u));
  }
    where
      keep : (j : ℕ) → Among j v.taken → Among j w.taken
      keep j a = subst (λ (z : List ℕ). Among j z) (sym taken) a

      from : (j : ℕ) → Among j v.full ⊎ Among j (n ∷ []) → Among j v.full ⊎ IsTaken j s.views
      from j h = ⊎_elim (λ a. inl a) (λ b. ⊎_elim (λ e. inr (subst (λ (z : ℕ). IsTaken z s.views) (sym e) (r.used n l some_))) (λ x. absurd x) b) h

  pub counted_does : (w : View) (c : List (ℕ × S)) → w.holds ≡ v.holds → get_or s.words k 0 < 2 ^ 32 → Does (counted id) (world k s) true (world k (stepped s k (get_or s.words k 0 + 1) id c w keeps))
  counted_does w c same low = ((is_view, low), world_live k s id v w (get_or s.words k 0 + 1) c at r.width same)

  pub uncounted_does : (w : View) (c : List (ℕ × S)) → w.holds ≡ v.holds → get_or s.words k 0 ≢ 0 → Does (uncounted id) (world k s) true (world k (stepped s k (get_or s.words k 0 - 1) id c w keeps))
  uncounted_does w c same some_ = ((is_view, some_), world_live k s id v w (get_or s.words k 0 - 1) c at r.width same)
