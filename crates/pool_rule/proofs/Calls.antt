-- The rule as the pool's calls ask for it: holds are told by weights.
use Rattle.std.proofs.Common.{◌≡◌, ◌≢◌, ◌⊎◌, inl, inr, ⊎_elim, eq-eqb, ne_eqb, sum_by, get_or-set_other, ℕ, zero, suc, ◌+◌, ◌-◌, ◌%◌, ◌^◌, ◌<◌, ◌≤◌, Bool, true, false, eqb, List, [], ◌∷◌, ◌++◌, length, map, take, drop, set, get_or, refl, sym, ap, subst, ◌∙◌, arith, get_or-set_same, append-nil}
use Rattle.std.specs.Prelude.{if◌then◌else◌, nat_lt, Some}
use Rattle.std.proofs.lemmas.List.Sums.{sum_by-append}
use mathlib.Core.Logic.{dite}
use native.Mathlib.Decide.{ℕ_discrete}
use mathlib.Core.Option.{Option, none, some, some-injective, some-ne-none}
use lib.ListN.{get_elem?}
use prog.Atomic.{either}
use Rattle.atomic_table.specs.Table.{State, Me, Act, step, keeps, gives, takes as takes_slot, put_back, Valid, carried_after, stepped, opening, Allows, Splits, Joins}
use Rattle.atomic_table.proofs.Lists.{set_here}
use Rattle.node_forest.specs.Forest.{children, below}
use Rattle.node_forest.specs.Label.{Node, number}
use Rattle.node_forest.specs.Members.{In, Occurs}
use Rattle.node_forest.proofs.Members.{root_occurs, child_occurs, below_in, alone_out, occurs_split}
use Rattle.node_forest.specs.declared.kind.Kind.{Kind}
use Rattle.node_forest.specs.declared.kind.Kind.TheVariants.{Flat, External, Part, Sum, Branch}
use Rattle.node_forest.specs.Codes.{kind_discrete}
use Rattle.count_core.specs.Holders.{Fitting}
use Rattle.count_core.specs.Steps.{zeroes, roots, word_at, home, Does}
use Rattle.count_core.proofs.Counting.{unheld}
use Rattle.count_core.proofs.Moves.{sound_of}
use Rattle.count_core.specs.Views.{without, without_all, passed_on, AreHeld}
use Rattle.pool_rule.specs.Notes.{Count, Tally, Use, use_of, uses_of, unused_after, lone_but}
use Rattle.pool_rule.specs.Views.{View, taking, noting, tried, sharing, releasing, homing, looking, count_of, tally_of, counting_below, counting_over, counting, ending, undoing, narrower, part_of, parting, empty_pass, handing, giving, without_node, holder, drawing, merged, first_view, spent}
use Rattle.pool_rule.specs.Rules.{holds_of, world, IsSane, Ruled}
use Rattle.pool_rule.specs.Plays.{AreOneEach, Told, HasLeft, taken, shared, left, homed, looked}
use Rattle.pool_rule.specs.Pools.{Terms, IsFresh, IsCalled, Member, IsAlone, IsReached, IsBare, slot_times, IsLive, Slotted, Kept}
use Rattle.pool_rule.specs.Trades.{HasHolds, Stands}
use Rattle.pool_rule.proofs.Allowed.{Moved, takes_allowed, shares_allowed, leaves_allowed, looks_allowed}
use Rattle.pool_rule.proofs.Door.{held-in, held-core, stands-occurs, takes-trades_held, leaves-trades}
use Rattle.pool_rule.proofs.Giving.{without_node-number}
use Rattle.pool_rule.proofs.Hands.{hands_allowed}
use Rattle.pool_rule.proofs.Passes.{passes_le, counts_allowed, ends_allowed, undoes_allowed, parts_allowed}
use Rattle.pool_rule.proofs.Holds.{occurs_without, occurs_without_all, occurs_among, held_in, child_below, below_child}
use Rattle.pool_rule.proofs.Alone.{reached_alone, member_lone_but, member_split, but_apart}
use Rattle.pool_rule.proofs.Tallies.{IsTally, SameTally, same_tally}
use Rattle.pool_rule.proofs.Pools.{IsStep, roots_set, step_allowed, stepped_kept, told_after, split_allowed, join_allowed, rehomed}
use Rattle.pool_rule.proofs.Slots.{live_on, slotted_same, slotted_made, slotted_out, slotted_home, same_step, slotted_start}
use Rattle.pool_rule.proofs.Steps.{low, seen, same_held, word_some, word_low, live_low, idle_world, does_ruled}
use Rattle.pool_rule.proofs.Tokens.{zero-at, starts, splits_allowed, joins_allowed}
use Rattle.pool_rule.proofs.Worlds.{at_lt, sane_at, places_world, width_world, word_world}

-- a list of slots cut in two
member_drop : (j n : ℕ) (is : List ℕ) → Member j (drop n is) → Member j is
member_drop j zero is h = h
member_drop j (suc n) [] h = h
member_drop j (suc n) (i ∷ is) h = inr (member_drop j n is h)

member_take : (j n : ℕ) (is : List ℕ) → Member j (take n is) → Member j is
member_take j zero is h = absurd h
member_take j (suc n) [] h = h
member_take j (suc n) (i ∷ is) (inl e) = inl e
member_take j (suc n) (i ∷ is) (inr h) = inr (member_take j n is h)

times_cut : (j n : ℕ) (is : List ℕ) → slot_times j (drop n is) + slot_times j (take n is) ≤ slot_times j is
times_cut j zero is = omega arith
times_cut j (suc n) [] = omega arith
times_cut j (suc n) (i ∷ is) = omega (arith, times_cut j n is)

pub both_empty : {A : Type 0} {xs : List A} (b : Bool) → xs ≡ [] → (if b then xs else []) ≡ []
both_empty true e = e
both_empty false e = refl

-- no count, no joined token
pub same_sides : {v w : View} → w.made ≡ v.made → w.ended ≡ v.ended → w.counts ≡ v.counts → w.joined ≡ v.joined → SameTally v w
same_sides a b c d = record { made = a; ended = b; counts = c; joined = d }

both_tried : (P : View → Type 0) (n : ℕ) (t : Node) (v : View) → (n ≡ 0 → P (taking t v)) → (n ≢ 0 → P (noting (number t) v)) → P (tried n t v)
both_tried P n t v yes_ no_ =
    dite (ℕ_discrete n 0)
    (λ e. subst (λ (b : Bool). P (if b then taking t v else noting (number t) v)) (sym (eq-eqb n 0 e)) (yes_ e))
    (λ ne. subst (λ (b : Bool). P (if b then taking t v else noting (number t) v)) (sym (ne_eqb n 0 ne)) (no_ ne))

abbrev found_one : Node → View → View
found_one t v = record v { lone = v.lone ++ number t ∷ [] }

abbrev found_more : ℕ → Node → View → View
found_more n t v = record v { looks = v.looks ++ record { number = number t; found = n; shares = v.shares } ∷ [] }

both_looking : (P : View → Type 0) (n : ℕ) (t : Node) (v : View) → (n ≡ 1 → P (found_one t v)) → (n ≢ 1 → P (found_more n t v)) → P (looking n t v)
both_looking P n t v yes_ no_ =
    dite (ℕ_discrete n 1)
    (λ e. subst (λ (b : Bool). P (if b then found_one t v else found_more n t v)) (sym (eq-eqb n 1 e)) (yes_ e))
    (λ ne. subst (λ (b : Bool). P (if b then found_one t v else found_more n t v)) (sym (ne_eqb n 1 ne)) (no_ ne))

both_counting : (P : View → Type 0) (n : ℕ) (v : View) → P (counting_below n v) → P (counting_over n v) → P (counting n v)
both_counting P n v a b = go (nat_lt n v.limit)
  where
    go : (c : Bool) → P (if c then counting_below n v else counting_over n v)
    go true = a
    go false = b

-- what occurs after a leave
occurs_passed : (n : ℕ) (x t : Node) (hs : List Node) → In t hs → Occurs x (without (number t) hs ++ passed_on n (Some t)) → Occurs x hs
occurs_passed n x t hs here o = ⊎_elim (λ a. occurs_without (number t) x hs a) (λ b. go (eqb n 1) b) (occurs_split x (without (number t) hs) (passed_on n (Some t)) o)
  where
    go : (b : Bool) → Occurs x (if b then children t else []) → Occurs x hs
    go true i = below_in x t hs (root_occurs t hs here) (child_below x t i)
    go false i = absurd i

pub reached_occurs : (t : Node) (v : View) → IsReached t v → Occurs t v.holds
reached_occurs t v reach = ⊎_elim (λ a. root_occurs t v.holds a) (λ b. child_occurs t b.0 v.holds b.1 b.3) reach

unused_plain : (k : Kind) (is : List ℕ) → k ≢ External → unused_after k is ≡ is
unused_plain Flat is ne = refl
unused_plain External is ne = absurd (ne refl)
unused_plain Part is ne = refl
unused_plain Sum is ne = refl
unused_plain Branch is ne = refl

pub uses_plain : (k : Kind) (t : Node) → k ≢ External → uses_of k t ≡ []
uses_plain Flat t ne = refl
uses_plain External t ne = absurd (ne refl)
uses_plain Part t ne = refl
uses_plain Sum t ne = refl
uses_plain Branch t ne = refl

-- a lone number that a step on another's word leaves
but_lone : (t : Node) (j : ℕ) (ns : List ℕ) → Member j (lone_but (t ∷ []) ns) → Member j ns × (j ≢ number t)
but_lone t j ns h = let r = member_lone_but (t ∷ []) j ns h in (r.0, λ e. but_apart (t ∷ []) j t r.1 (inl refl) (sym e))

module _ {S : Type 0} (p : Terms S) (s : State S View) (id : ℕ) (v : View) (r : Kept p s) (at : get_elem? s.views id ≡ some v) where
  pub live_same : (i m : ℕ) → i < p.numbers → get_or (set s.words i m) p.numbers 0 + 0 ≡ get_or s.words p.numbers 0 + 0
  live_same i m l = let e = get_or-set_other s.words i p.numbers m 0 (λ z. omega (arith, z, l)) in omega (arith, e)

  -- the table's trees
  abbrev all_roots : List Node
  all_roots = roots (map holds_of s.views)

  abbrev roots_with : View → List Node
  roots_with w = roots (map holds_of (set s.views id w))

  -- what a step leaves that takes no slot
  abbrev Leaves : ℕ → ℕ → View → Type 0
  Leaves i m w = IsStep p s id i m v w × Slotted p (set s.words i m) s.homes (roots_with w) (set s.views id w)

  pub kept_slots : (i m : ℕ) (w : View) → i < length s.words → w.unused ≡ v.unused → w.used ≡ v.used → w.away ≡ v.away
      → ((x : Node) → Occurs x w.holds → Occurs x v.holds ⊎ ((number x ≡ i) × (get_or s.words i 0 ≡ 0) × (x.0.kind ≢ External)))
      → ((u : Use) → IsLive p.numbers s.words (roots (map holds_of s.views)) u → m ≡ 0 → u.number ≡ i → ⊥)
      → Slotted p (set s.words i m) s.homes (roots (map holds_of (set s.views id w))) (set s.views id w)
  kept_slots i m w wide unused used away new still =
      slotted_same p s.words (set s.words i m) s.homes all_roots (roots_with w) s.views (set s.views id w) (same_step s.views id v w at unused used away)
      (λ x o e. ⊎_elim (λ c. ⊎_elim (λ b. seen p.numbers s id v r.counted at x b) (λ b. absurd (b.2 e)) (new x c)) (λ c. c) (roots_set s.views id w x o))
      (λ u h l. live_on p.numbers s.words all_roots (roots_with w) i m u wide
      (λ x o. ⊎_elim (λ c. ⊎_elim (λ b. inl (seen p.numbers s id v r.counted at x b)) (λ b. inr (b.0, b.1)) (new x c)) (λ c. inl c) (roots_set s.views id w x o))
      (still u l) l)
      r.slotted

  -- a step on the word of a node that the token sees
  pub seen_step : (t : Node) (m : ℕ) (w : View) → Occurs t v.holds → w.spare ≡ v.spare → SameTally v w → w.lone ≡ lone_but (t ∷ []) v.lone → ((x : Node) → Occurs x w.holds → Occurs x v.holds) → IsStep p s id (number t) m v w
  seen_step t m w here spare tally lone down =
      let l = low p.numbers s id v r.counted at t here in
      record {
        spare = spare;
        wide = omega (arith, l, r.counted.width);
        tally = same_tally (get_or s.words p.numbers 0) v w tally;
        live = live_same (number t) m l;
        lone = record {
          kept = λ j h. let b = but_lone t j v.lone (subst (λ (ns : List ℕ). Member j ns) lone h) in inl (b.0, inl b.1);
          touch = λ o ne a. absurd (a.apart id v at (λ e. ne (sym e)) t here refl);
          new = λ x o. inl (x, down x o, refl);
        };
      }

  pub seen_slots : (t : Node) (m : ℕ) (w : View) → Occurs t v.holds → w.unused ≡ v.unused → w.used ≡ v.used → w.away ≡ v.away → ((x : Node) → Occurs x w.holds → Occurs x v.holds) → (m ≡ 0 → t.0.kind ≢ External)
      → Slotted p (set s.words (number t) m) s.homes (roots (map holds_of (set s.views id w))) (set s.views id w)
  seen_slots t m w here unused used away down why =
      kept_slots (number t) m w (omega (arith, low p.numbers s id v r.counted at t here, r.counted.width)) unused used away (λ x o. inl (down x o))
      (λ u l z e. why z (l.node t (seen p.numbers s id v r.counted at t here) (sym e)).0)

  -- a step that leaves the word and the holds
  pub still_step : (n m : ℕ) (w : View) → n < p.numbers → m ≡ get_or s.words n 0 → w.spare ≡ v.spare → SameTally v w → w.holds ≡ v.holds
      → ((j : ℕ) → Member j w.lone → Member j v.lone ⊎ IsAlone p.numbers (set s.words n m) (set s.views id w) id j) → IsStep p s id n m v w
  still_step n m w l same spare tally holds lone = record {
    spare = spare;
    wide = omega (arith, l, r.counted.width);
    tally = same_tally (get_or s.words p.numbers 0) v w tally;
    live = live_same n m l;
    lone = record {
      kept = λ j h. ⊎_elim (λ a. inl (a, inr same)) (λ b. inr b) (lone j h);
      touch = λ o ne a. same;
      new = λ x o. inl (x, subst (λ (hs : List Node). Occurs x hs) holds o, refl);
    };
  }

  pub still_slots : (n m : ℕ) (w : View) → n < p.numbers → m ≡ get_or s.words n 0 → w.holds ≡ v.holds → w.unused ≡ v.unused → w.used ≡ v.used → w.away ≡ v.away
      → Slotted p (set s.words n m) s.homes (roots (map holds_of (set s.views id w))) (set s.views id w)
  still_slots n m w l same holds unused used away =
      kept_slots n m w (omega (arith, l, r.counted.width)) unused used away (λ x o. inl (subst (λ (hs : List Node). Occurs x hs) holds o))
      (λ u live z e. live.word (ap (λ (k : ℕ). get_or s.words k 0) e ∙ (sym same ∙ z)))

  -- what occurs after a take
  taken_new : (t : Node) → AreHeld (children t) v.holds → (x : Node) → Occurs x (taking t v).holds → Occurs x v.holds ⊎ (x ≡ t)
  taken_new t held x o = ⊎_elim
      (λ a. inl (occurs_without_all x (children t) v.holds a))
      (λ b. ⊎_elim (λ e. inr e) (λ c. inl (occurs_among x (children t) v.holds (held_in (children t) v.holds held) c)) (below_child x t (alone_out x t b)))
      (occurs_split x (without_all (children t) v.holds) (t ∷ []) o)

  take_step : (t : Node) → number t < p.numbers → get_or s.words (number t) 0 ≡ 0 → AreHeld (children t) v.holds → (m : ℕ) → IsStep p s id (number t) m v (taking t v)
  take_step t l free held m = record {
    spare = refl;
    wide = omega (arith, l, r.counted.width);
    tally = same_tally (get_or s.words p.numbers 0) v (taking t v) (same_sides refl refl refl refl);
    live = live_same (number t) m l;
    lone = record {
      kept = λ j h. inl (h, inl (λ e. let one = (r.lone id j v at h).one in let zero_ : get_or s.words j 0 ≡ 0 = ap (λ (z : ℕ). get_or s.words z 0) e ∙ free in absurd (omega (arith, one, zero_))));
      touch = λ o ne a. absurd (omega (arith, a.one, free));
      new = λ x o. ⊎_elim (λ a. inl (x, a, refl)) (λ e. inr (ap number e, free)) (taken_new t held x o);
    };
  }

  -- a number whose word is 0 is no node's
  free_absent : (n : ℕ) → n < p.numbers → get_or s.words n 0 ≡ 0 → (x : Node) → Occurs x all_roots → number x ≢ n
  free_absent n l free x o =
      let w = width_world p.numbers s r.counted.width in
      unheld (length (world p.numbers s).words) (word_at (world p.numbers s)) all_roots n (sound_of (world p.numbers s) r.counted.sound) (omega (arith, l, w)) (word_world p.numbers s n l ∙ free) x o

  take_slots : (t : Node) → number t < p.numbers → get_or s.words (number t) 0 ≡ 0 → AreHeld (children t) v.holds → (m : ℕ) → m ≢ 0 → (t.0.kind ≡ External → (later : List ℕ) × (v.unused ≡ t.0.more ∷ later))
      → Slotted p (set s.words (number t) m) s.homes (roots_with (taking t v)) (set s.views id (taking t v))
  take_slots t l free held m taken next = go (kind_discrete t.0.kind External)
    where
      wide : number t < length s.words
      wide = omega (arith, l, r.counted.width)

      go : Dec (t.0.kind ≡ External) → Slotted p (set s.words (number t) m) s.homes (roots_with (taking t v)) (set s.views id (taking t v))
      go (yes e) =
          let later = next e in
          slotted_made p s.words s.homes all_roots (roots_with (taking t v)) s.views id v (taking t v) at t m later.0 e later.1
          (ap (λ (k : Kind). unused_after k v.unused) e ∙ ap (λ (is : List ℕ). drop 1 is) later.1)
          (ap (λ (k : Kind). v.used ++ uses_of k t) e) refl l wide free taken (free_absent (number t) l free)
          (λ x o. ⊎_elim (λ a. ⊎_elim (λ b. inl (seen p.numbers s id v r.counted at x b)) (λ b. inr b) (taken_new t held x a)) (λ a. inl a) (roots_set s.views id (taking t v) x o))
          r.slotted
      go (no ne) =
          kept_slots (number t) m (taking t v) wide (unused_plain t.0.kind v.unused ne) (ap (λ (us : List Use). v.used ++ us) (uses_plain t.0.kind t ne) ∙ append-nil v.used) refl
          (λ x o. ⊎_elim (λ a. inl a) (λ e. inr (ap number e, free, λ k. ne (sym (ap (λ (z : Node). z.0.kind) e) ∙ k))) (taken_new t held x o))
          (λ u live z e. taken z)

  -- a step on the word of live passes
  live_step : (m : ℕ) (w : View) (tally : IsTally (get_or s.words p.numbers 0) v w) → m + tally.ended ≡ get_or s.words p.numbers 0 + tally.made → w.spare ≡ v.spare → w.lone ≡ v.lone → w.holds ≡ v.holds → w.unused ≡ v.unused → w.used ≡ v.used → w.away ≡ v.away → Leaves p.numbers m w
  live_step m w tally live spare lone holds unused used away = (
    record {
      spare = spare;
      wide = omega (arith, r.counted.width);
      tally = tally;
      live = let e = get_or-set_same s.words p.numbers m 0 (omega (arith, r.counted.width)) in omega (arith, e, live);
      lone = record {
        kept = λ j h. let mine = subst (λ (ns : List ℕ). Member j ns) lone h in inl (mine, inl (λ e. absurd (omega (arith, e, (r.lone id j v at mine).low))));
        touch = λ o ne a. absurd (omega (arith, a.low));
        new = λ x o. inl (x, subst (λ (hs : List Node). Occurs x hs) holds o, refl);
      };
    },
    kept_slots p.numbers m w (omega (arith, r.counted.width)) unused used away (λ x o. inl (subst (λ (hs : List Node). Occurs x hs) holds o)) (λ u l z e. absurd (omega (arith, l.low, e))),
  )

abbrev counts_tally : (word : ℕ) (v w : View) → w.made ≡ v.made + 1 → w.ended ≡ v.ended → w.joined ≡ v.joined → w.counts ≡ v.counts ++ count_of word v ∷ [] → IsTally word v w
counts_tally word v w made ended joined counts = record {
  made = 1;
  ended = 0;
  more_made = made;
  more_ended = omega (arith, ended);
  joined = joined;
  counts = λ c h. ⊎_elim (λ a. inl a) (λ b. ⊎_elim (λ e. inr (e, refl)) (λ z. absurd z) b) (member_split c v.counts (count_of word v ∷ []) (subst (λ (l : List Count). Member c l) counts h));
}

abbrev ends_tally : (word : ℕ) (v w : View) → w.made ≡ v.made → w.ended ≡ v.ended + 1 → w.joined ≡ v.joined → w.counts ≡ v.counts → IsTally word v w
ends_tally word v w made ended joined counts = record {
  made = 0;
  ended = 1;
  more_made = omega (arith, made);
  more_ended = ended;
  joined = joined;
  counts = λ c h. inl (subst (λ (l : List Count). Member c l) counts h);
}

module _ {S : Type 0} (p : Terms S) (slots id : ℕ) (me : Me S View) (worker : 0 < me.0.spare) where
  pub takes : (t : Node) → number t < p.numbers → HasHolds me.0.holds (children t) → length (children t) ≤ 6 → length me.0.holds < me.0.room + length (children t) → (t.0.kind ≡ External → (later : List ℕ) × (me.0.unused ≡ t.0.more ∷ later))
      → Allows (Kept p) slots id me (number t) (λ n. either (eqb n 0) 1 n) (taken t (step slots (number t) 0 1 none) me)
  takes t l held few room next s r homes at below =
      let good : (s : State S View) (r : Kept p s) (at : get_elem? s.views id ≡ some me.0) → Leaves p s id me.0 r at (number t) (either (eqb (get_or s.words (number t) 0) 0) 1 (get_or s.words (number t) 0)) (tried (get_or s.words (number t) 0) t me.0) =
      (λ s r at. let n : ℕ = get_or s.words (number t) 0 in
      both_tried (λ w. Leaves p s id me.0 r at (number t) (either (eqb n 0) 1 n) w) n t me.0
      (λ free. let core = held-core me.0.holds (children t) (same_held p.numbers s id me.0 r.counted at) held in
      let is_one : either (eqb n 0) 1 n ≡ 1 = ap (λ (b : Bool). either b 1 n) (eq-eqb n 0 free) in
      (take_step p s id me.0 r at t l free core (either (eqb n 0) 1 n), take_slots p s id me.0 r at t l free core (either (eqb n 0) 1 n) (λ z. absurd (omega (arith, z, is_one))) next))
      (λ full. let is_n : either (eqb n 0) 1 n ≡ n = ap (λ (b : Bool). either b 1 n) (ne_eqb n 0 full) in (
        still_step p s id me.0 r at (number t) (either (eqb n 0) 1 n) (noting (number t) me.0) l is_n refl (same_sides refl refl refl refl) refl (λ j h. inl h),
        still_slots p s id me.0 r at (number t) (either (eqb n 0) 1 n) (noting (number t) me.0) l is_n refl refl refl refl,
      ))) in
      let one : AreOneEach me.0.holds = same_held p.numbers s id me.0 r.counted at in
      let new : List Node = without_all (children t) me.0.holds ++ t ∷ [] in
      let trade = takes-trades_held me.0.holds new (children t) t one held refl in
      let count = trade.count in
      step_allowed p slots id (number t) me (λ n. either (eqb n 0) 1 n) (λ n. tried n t me.0) worker good
      (takes_allowed p.numbers slots id me t l (held-core me.0.holds (children t) one held) few (omega arith)) s r homes at below

  pub shares : (t : Node) → p.numbers ≤ 2 ^ 18 → Stands me.0.holds t → length me.0.holds < me.0.room
      → Allows (Kept p) slots id me (number t) (λ n. (n + 1) % 2 ^ 64) (shared t (step slots (number t) 1 0 none) me)
  shares t small stands room =
      step_allowed p slots id (number t) me (λ n. (n + 1) % 2 ^ 64) (λ n. sharing t me.0) worker
      (λ s r at.
      let here = stands-occurs me.0.holds t stands in
      let m : ℕ = (get_or s.words (number t) 0 + 1) % 2 ^ 64 in
      let fits = word_low p.numbers s id me.0 r.counted at small (number t) (low p.numbers s id me.0 r.counted at t here) in
      let down : (x : Node) → Occurs x (sharing t me.0).holds → Occurs x me.0.holds = (λ x o. ⊎_elim (λ a. a) (λ b. below_in x t me.0.holds here (alone_out x t b)) (occurs_split x me.0.holds (t ∷ []) o)) in (
        seen_step p s id me.0 r at t m (sharing t me.0) here refl (same_sides refl refl refl refl) refl down,
        seen_slots p s id me.0 r at t m (sharing t me.0) here refl refl refl down (λ z. absurd (omega (arith, z, fits))),
      ))
      (shares_allowed p.numbers slots id me t small (stands-occurs me.0.holds t stands) room)

  pub looks : (t : Node) → IsReached t me.0 → Allows (Kept p) slots id me (number t) (λ n. n) (looked t (step slots (number t) 0 0 none) me)
  looks t reached =
      let here = reached_occurs t me.0 reached in
      step_allowed p slots id (number t) me (λ n. n) (λ n. looking n t me.0) worker
      (λ s r at. let n : ℕ = get_or s.words (number t) 0 in let l = low p.numbers s id me.0 r.counted at t here in
      both_looking (λ w. Leaves p s id me.0 r at (number t) n w) n t me.0
      (λ one. (
        still_step p s id me.0 r at (number t) n (found_one t me.0) l refl refl (same_sides refl refl refl refl) refl
            (λ j h. ⊎_elim (λ a. inl a) (λ b. ⊎_elim (λ e. inr (subst (IsAlone p.numbers (set s.words (number t) n) (set s.views id (found_one t me.0)) id) (sym e) (reached_alone p.numbers s id me.0 r.counted at r.lone t n (found_one t me.0) reached here one refl))) (λ z. absurd z) b)
            (member_split j me.0.lone (number t ∷ []) h)),
        still_slots p s id me.0 r at (number t) n (found_one t me.0) l refl refl refl refl refl,
      ))
      (λ more. (
        still_step p s id me.0 r at (number t) n (found_more n t me.0) l refl refl (same_sides refl refl refl refl) refl (λ j h. inl h),
        still_slots p s id me.0 r at (number t) n (found_more n t me.0) l refl refl refl refl refl,
      )))
      (looks_allowed p.numbers slots id me t here)

  pub counts : me.0.over < me.0.spare → Allows (Kept p) slots id me p.numbers (λ n. (n + 1) % 2 ^ 64) (λ n m'. Told (counting n me.0) me m')
  counts less = step_allowed p slots id p.numbers me (λ n. (n + 1) % 2 ^ 64) (λ n. counting n me.0) worker
      (λ s r at. let n : ℕ = get_or s.words p.numbers 0 in let few = live_low p.numbers s id me.0 r.counted at in
      both_counting (λ w. Leaves p s id me.0 r at p.numbers ((n + 1) % 2 ^ 64) w) n me.0
      (live_step p s id me.0 r at ((n + 1) % 2 ^ 64) (counting_below n me.0) (counts_tally n me.0 (counting_below n me.0) refl refl refl refl) (omega (arith, few)) refl refl refl refl refl refl)
      (live_step p s id me.0 r at ((n + 1) % 2 ^ 64) (counting_over n me.0) (counts_tally n me.0 (counting_over n me.0) refl refl refl refl) (omega (arith, few)) refl refl refl refl refl refl))
      (counts_allowed p.numbers slots id me less)

  pub ends : 0 < me.0.passes → length me.0.holds < me.0.room → Allows (Kept p) slots id me p.numbers (λ n. (n + (2 ^ 64 - 1)) % 2 ^ 64) (λ n m'. Told (ending me.0) me m')
  ends own room = step_allowed p slots id p.numbers me (λ n. (n + (2 ^ 64 - 1)) % 2 ^ 64) (λ n. ending me.0) worker
      (λ s r at. let n : ℕ = get_or s.words p.numbers 0 in let few = live_low p.numbers s id me.0 r.counted at in let some_ = r.counted.live in let mine = passes_le s.views id me.0 at in
      live_step p s id me.0 r at ((n + (2 ^ 64 - 1)) % 2 ^ 64) (ending me.0) (ends_tally n me.0 (ending me.0) refl refl refl refl) (omega (arith, few, some_, mine, own)) refl refl refl refl refl refl)
      (ends_allowed p.numbers slots id me own room)

  pub undoes : 0 < me.0.over → 0 < me.0.passes → length me.0.holds < me.0.room → Allows (Kept p) slots id me p.numbers (λ n. (n + (2 ^ 64 - 1)) % 2 ^ 64) (λ n m'. Told (undoing me.0) me m')
  undoes over own room = step_allowed p slots id p.numbers me (λ n. (n + (2 ^ 64 - 1)) % 2 ^ 64) (λ n. undoing me.0) worker
      (λ s r at. let n : ℕ = get_or s.words p.numbers 0 in let few = live_low p.numbers s id me.0 r.counted at in let some_ = r.counted.live in let mine = passes_le s.views id me.0 at in
      live_step p s id me.0 r at ((n + (2 ^ 64 - 1)) % 2 ^ 64) (undoing me.0) (ends_tally n me.0 (undoing me.0) refl refl refl refl) (omega (arith, few, some_, mine, own)) refl refl refl refl refl refl)
      (undoes_allowed p.numbers slots id me over own room)

  -- A hold goes. Where it was an external's last, its slot goes out with the leaver.
  pub leaves : (t : Node) → HasHolds me.0.holds (t ∷ []) → length me.0.holds + length (children t) ≤ me.0.room + 1 → me.0.away ≡ []
      → Allows (Kept p) slots id me (number t) (λ n. (n + (2 ^ 64 - 1)) % 2 ^ 64) (left p t (step slots (number t) 1 0 none) me)
  leaves t held room none_away s r homes at below = go (ℕ_discrete n 1) (kind_discrete t.0.kind External)
    where
      n : ℕ
      n = get_or s.words (number t) 0

      m : ℕ
      m = (n + (2 ^ 64 - 1)) % 2 ^ 64

      here : In t me.0.holds
      here = held-in me.0.holds t held

      occurs : Occurs t me.0.holds
      occurs = root_occurs t me.0.holds here

      one : AreOneEach me.0.holds
      one = same_held p.numbers s id me.0 r.counted at

      w : View
      w = releasing n t me.0

      h : (w : View) × (a : Act S) × Valid s.homes me.1 a × Ruled p.numbers (stepped s (number t) m id me.1 w a) × Moved (releasing n t me.0) me (w, carried_after me.1 a)
      h = let trade = leaves-trades me.0.holds (without (number t) me.0.holds ++ children t) (children t) t one here refl in
          let count = trade.count in
          leaves_allowed p.numbers slots id me t (λ k. if eqb k 1 then uses_of t.0.kind t else []) here (omega (arith, count, room)) s r.counted homes at below

      ruled : (a : Act S) → Ruled p.numbers (stepped s (number t) m id me.1 w a)
      ruled a = subst (λ (z : View). Ruled p.numbers (stepped s (number t) m id me.1 z a)) h.4.view (rehomed p.numbers s (number t) m id me.1 h.0 h.1 a h.3)

      held_some : 1 ≤ n
      held_some = word_some p.numbers s id me.0 r.counted at t occurs

      l : number t < p.numbers
      l = low p.numbers s id me.0 r.counted at t occurs

      down : (x : Node) → Occurs x w.holds → Occurs x me.0.holds
      down x o = occurs_passed n x t me.0.holds here o

      step_ : IsStep p s id (number t) m me.0 w
      step_ = seen_step p s id me.0 r at t m w occurs refl (same_sides refl refl refl refl) refl down

      is_m : m ≡ n - 1
      is_m = omega (arith, held_some, below)

      at_w : get_elem? (set s.views id w) id ≡ some w
      at_w = set_here s.views id w (at_lt s.views id me.0 at)

      word_m : get_or (set s.words (number t) m) (number t) 0 ≡ m
      word_m = get_or-set_same s.words (number t) m 0 (omega (arith, l, r.counted.width))

      -- after a last leave the number is no node's
      gone_all : n ≡ 1 → (x : Node) → Occurs x (roots (map holds_of (set s.views id w))) → number x ≢ number t
      gone_all last x o =
          let z = ruled keeps in
          let wide = width_world p.numbers (stepped s (number t) m id me.1 w keeps) z.width in
          unheld (length (world p.numbers (stepped s (number t) m id me.1 w keeps)).words) (word_at (world p.numbers (stepped s (number t) m id me.1 w keeps))) (roots (map holds_of (set s.views id w))) (number t)
          (sound_of (world p.numbers (stepped s (number t) m id me.1 w keeps)) z.sound) (omega (arith, l, wide)) (word_world p.numbers (stepped s (number t) m id me.1 w keeps) (number t) l ∙ (word_m ∙ (let e : m ≡ 0 = omega (arith, is_m, last) in e))) x o

      told : (after : Me S View) → after.0 ≡ w → ((n ≢ 1) ⊎ (t.0.kind ≢ External) → after.1 ≡ me.1) → (n ≡ 1 → t.0.kind ≡ External → (y : S) × IsFresh p t.0.more y × (after.1 ≡ (t.0.more, y) ∷ me.1)) → HasLeft p t me n after
      told after view plain last =
          let t0 = told_after p s id (number t) m me w (ruled keeps) h.4 at in
          record {
            view = view;
            sane = subst (λ (z : View). IsSane z.size z) (sym view) t0.sane;
            fits = subst (λ (z : View). Fitting z.size z.holds) (sym view) t0.fits;
            one_each = one;
            gone = λ is_last o. gone_all is_last t (seen p.numbers (stepped s (number t) m id me.1 w keeps) id w (ruled keeps) at_w t (subst (λ (z : View). Occurs t z.holds) view o)) refl;
            plain = plain;
            last = last;
          }

      plainly : (n ≢ 1) ⊎ (t.0.kind ≢ External) → (w : View) × (a : Act S) × Valid s.homes me.1 a × Kept p (stepped s (number t) m id me.1 w a) × HasLeft p t me n (w, carried_after me.1 a)
      plainly why =
          let away : w.away ≡ me.0.away = none_out why ∙ sym none_away in (
            w,
            keeps,
            tt,
            stepped_kept p s id (number t) m me.0 w me.1 keeps r at worker step_
                (seen_slots p s id me.0 r at t m w occurs refl refl away down (λ z. ⊎_elim (λ ne. absurd (ne (let e : n ≡ 1 = omega (arith, z, is_m, held_some) in e))) (λ ne. ne) why)) (ruled keeps),
            told (w, me.1) refl (λ _. refl) (λ last ext. ⊎_elim (λ ne. absurd (ne last)) (λ ne. absurd (ne ext)) why),
          )
        where
          none_out : (n ≢ 1) ⊎ (t.0.kind ≢ External) → w.away ≡ []
          none_out (inl ne) = ap (λ (b : Bool). if b then uses_of t.0.kind t else []) (ne_eqb n 1 ne)
          none_out (inr ne) = both_empty (eqb n 1) (uses_plain t.0.kind t ne)

      lastly : n ≡ 1 → t.0.kind ≡ External → (w : View) × (a : Act S) × Valid s.homes me.1 a × Kept p (stepped s (number t) m id me.1 w a) × HasLeft p t me n (w, carried_after me.1 a)
      lastly last ext =
          let seen_t = seen p.numbers s id me.0 r.counted at t occurs in
          let down_all : (x : Node) → Occurs x (roots (map holds_of (set s.views id w))) → Occurs x (roots (map holds_of s.views)) = (λ x o. ⊎_elim (λ a. seen p.numbers s id me.0 r.counted at x (down x a)) (λ a. a) (roots_set s.views id w x o)) in
          let away : w.away ≡ use_of t ∷ [] = ap (λ (b : Bool). if b then uses_of t.0.kind t else []) (eq-eqb n 1 last) ∙ ap (λ (k : Kind). uses_of k t) ext in
          let box = (r.slotted.external t seen_t ext).0 in (
            w,
            takes_slot t.0.more box.value,
            box.at,
            stepped_kept p s id (number t) m me.0 w me.1 (takes_slot t.0.more box.value) r at worker step_
                (slotted_out p s.words s.homes (roots (map holds_of s.views)) (roots (map holds_of (set s.views id w))) s.views id me.0 w at t m ext seen_t refl refl none_away away down_all (gone_all last) r.slotted)
                (ruled (takes_slot t.0.more box.value)),
            told (w, (t.0.more, box.value) ∷ me.1) refl (λ why. ⊎_elim (λ ne. absurd (ne last)) (λ ne. absurd (ne ext)) why) (λ _ _. (box.value, box.is, refl)),
          )

      go : Dec (n ≡ 1) → Dec (t.0.kind ≡ External) → (w : View) × (a : Act S) × Valid s.homes me.1 a × Kept p (stepped s (number t) m id me.1 w a) × HasLeft p t me n (w, carried_after me.1 a)
      go (yes last) (yes ext) = lastly last ext
      go (yes last) (no ne) = plainly (inr ne)
      go (no ne) d = plainly (inl ne)

  -- The slot that is out comes home with its box, which was called.
  pub homes : (u : Use) (y : S) → 0 < p.numbers → me.0.away ≡ u ∷ [] → me.1 ≡ (u.slot, y) ∷ [] → IsCalled p u.slot u.length y → Allows (Kept p) slots id me 0 (λ n. n) (homed (step slots 0 0 0 none) me)
  homes u y some_ was carried called s r _ at _ =
      let n : ℕ = get_or s.words 0 0 in
      let w : View = homing me.0 in
      let mine = sane_at p.numbers s.views id me.0 r.counted.sane at in
      let sane : IsSane p.numbers w = record { size = mine.size; roomy = mine.roomy; narrow = mine.narrow; limited = mine.limited; fewer = mine.fewer } in
      let does : Does (home id) (world p.numbers s) true (world p.numbers (stepped s 0 n id me.1 w keeps)) = (omega (arith, at_lt s.views id me.0 at, places_world p.numbers s), idle_world p.numbers s id me.0 r.counted at 0 n w me.1 some_ refl refl) in
      let ruled = does_ruled p.numbers s id me.0 r.counted at (home id) 0 n w me.1 does sane (refl, refl, refl, refl) some_ (λ j a. a) (λ nz. inl nz) refl in
      let down : (x : Node) → Occurs x (roots (map holds_of (set s.views id w))) → Occurs x (roots (map holds_of s.views)) = (λ x o. ⊎_elim (λ a. seen p.numbers s id me.0 r.counted at x a) (λ a. a) (roots_set s.views id w x o)) in
      let put : put_back s.homes me.1 ≡ set s.homes u.slot (some y) = ap (put_back s.homes) carried in
      let wide : 0 < length s.words = omega (arith, r.counted.width) in
      let slotted = slotted_home p s.words (set s.words 0 n) s.homes (roots (map holds_of s.views)) (roots (map holds_of (set s.views id w))) s.views id me.0 w at u y called refl refl was refl (λ x o e. down x o)
      (λ z live. live_on p.numbers s.words (roots (map holds_of s.views)) (roots (map holds_of (set s.views id w))) 0 n z wide (λ x o. inl (down x o)) (λ e q. live.word (ap (λ (k : ℕ). get_or s.words k 0) q ∙ e)) live)
      r.slotted in
      let here = set_here s.views id w (at_lt s.views id me.0 at) in (
        w,
        gives,
        tt,
        stepped_kept p s id 0 n me.0 w me.1 gives r at worker
            (still_step p s id me.0 r at 0 n w some_ refl refl (same_sides refl refl refl refl) refl (λ j h. inl h))
            (subst (λ (hs : List (Option S)). Slotted p (set s.words 0 n) hs (roots (map holds_of (set s.views id w))) (set s.views id w)) (sym put) slotted)
            (rehomed p.numbers s 0 n id me.1 w keeps gives ruled),
        record {
          view = refl;
          slots = refl;
          sane = record { size = refl; roomy = mine.roomy; narrow = mine.narrow; limited = mine.limited; fewer = mine.fewer };
          fits = λ t o. subst (λ (k : ℕ). number t < k) (sym sane.size) (low p.numbers (stepped s 0 n id me.1 w keeps) id w ruled here t o);
        },
      )

module _ {S : Type 0} (p : Terms S) (id : ℕ) where
  -- a worker is made out of the first token
  pub splits : (room slots : ℕ) (v : View) → length v.holds + room ≤ v.room → 1 < v.spare → v.over < v.spare → Splits {S = S} (Kept p) id v (narrower room slots v) (part_of room slots v)
  splits room slots v fits more less =
      split_allowed p id v (narrower room slots v) (part_of room slots v) (record {
        shared = omega arith;
        slots = record {
          used = refl;
          away = refl;
          none_used = refl;
          none_away = refl;
          unused_left = λ j h. member_drop j slots v.unused h;
          unused_right = λ j h. member_take j slots v.unused h;
          count = λ j. times_cut j slots v.unused;
        };
        bare_left = λ z. absurd (omega arith);
        bare_right = λ z. absurd (omega arith);
        tally = same_sides refl refl refl refl;
        uncounted = record { made = refl; ended = refl; counts = refl; joined = refl };
        none_lone = refl;
        lone = λ j h. (h, λ x o. absurd o);
        holds_left = λ x o. o;
        holds_right = λ x o. absurd o;
      }) (splits_allowed p.numbers id v room slots fits less)

  bare_pass : (v : View) → IsBare (empty_pass v)
  bare_pass v = record { room = refl; taken = refl; full = refl; returned = refl; over = refl; made = refl; ended = refl; counts = refl; joined = refl; unused = refl; used = refl; away = refl }

  bare_holder : (t : Node) (v : View) → IsBare (holder t v)
  bare_holder t v = record { room = refl; taken = refl; full = refl; returned = refl; over = refl; made = refl; ended = refl; counts = refl; joined = refl; unused = refl; used = refl; away = refl }

  -- a pass becomes a token of its own, empty or with a direct hold
  pub parts : (v : View) → 0 < v.spare → 0 < v.passes → length v.holds < v.room → Splits {S = S} (Kept p) id v (parting v) (empty_pass v)
  parts v worker own room =
      split_allowed p id v (parting v) (empty_pass v) (record {
        shared = omega arith;
        slots = record { used = refl; away = refl; none_used = refl; none_away = refl; unused_left = λ j h. h; unused_right = λ j h. absurd h; count = λ j. omega arith };
        bare_left = λ z. absurd (omega arith);
        bare_right = λ z. bare_pass v;
        tally = same_sides refl refl refl refl;
        uncounted = record { made = refl; ended = refl; counts = refl; joined = refl };
        none_lone = refl;
        lone = λ j h. (h, λ x o. absurd o);
        holds_left = λ x o. o;
        holds_right = λ x o. absurd o;
      }) (parts_allowed p.numbers id v own room)

  pub hands : (v : View) (t : Node) → 0 < v.spare → 0 < v.passes → HasHolds v.holds (t ∷ []) → Splits {S = S} (Kept p) id v (giving t v) (holder t v)
  hands v t worker own held s r at =
      let here = held-in v.holds t held in
      let same : without (number t) v.holds ≡ without_node t v.holds = sym (without_node-number t v.holds here (λ u i e. same_held p.numbers s id v r.counted at u t i here e)) in
      subst (λ (hs : List Node). Kept p record { words = s.words; homes = s.homes; views = set s.views id (record (handing t v) { holds = hs }) ++ holder t v ∷ [] }) same
      (split_allowed p id v (handing t v) (holder t v) (record {
        shared = omega arith;
        slots = record { used = refl; away = refl; none_used = refl; none_away = refl; unused_left = λ j h. h; unused_right = λ j h. absurd h; count = λ j. omega arith };
        bare_left = λ z. absurd (omega arith);
        bare_right = λ z. bare_holder t v;
        tally = same_sides refl refl refl refl;
        uncounted = record { made = refl; ended = refl; counts = refl; joined = refl };
        none_lone = refl;
        lone = λ j h. let b = member_lone_but (below t) j v.lone h in (b.0, λ x o. but_apart (below t) j x b.1 (alone_out x t o));
        holds_left = λ x o. occurs_without (number t) x v.holds o;
        holds_right = λ x o. below_in x t v.holds (root_occurs t v.holds here) (alone_out x t o);
      }) (hands_allowed p.numbers id v t here own) s r at)

  -- a pass is taken back
  pub draws : (other : ℕ) (v w : View) → 0 < v.spare → w.spare ≡ 0 → IsBare w → Joins {S = S} (Kept p) id v other w (drawing v w) (spent w)
  draws other v w worker none_ bare =
      let jm = ap (λ (l : List Tally). sum_by (λ (x : Tally). x.made) l) bare.joined in
      let je = ap (λ (l : List Tally). sum_by (λ (x : Tally). x.ended) l) bare.joined in
      join_allowed p id other v w (drawing v w) (record {
        shared = omega (arith, none_);
        slots = record {
          unused = sym (append-nil v.unused) ∙ ap (λ (z : List ℕ). v.unused ++ z) (sym bare.unused);
          used = sym (append-nil v.used) ∙ ap (λ (z : List Use). v.used ++ z) (sym bare.used);
          away = refl;
          none_away = bare.away;
        };
        bare = λ z. absurd (omega arith);
        tally = record { made = refl; ended = refl; counts = refl; all_made = omega (arith, jm, bare.made); all_ended = omega (arith, je, bare.ended); joined = λ t h. inl h };
        lone = λ j h. inl h;
        holds = λ x o. occurs_split x v.holds w.holds o;
      }) (joins_allowed p.numbers id other v w (drawing v w) (record {
        holds = refl;
        room = refl;
        size = refl;
        taken = sym (append-nil v.taken) ∙ ap (λ (z : List ℕ). v.taken ++ z) (sym bare.taken);
        full = sym (append-nil v.full) ∙ ap (λ (z : List ℕ). v.full ++ z) (sym bare.full);
        passes = refl;
        limit = refl;
        over = omega (arith, bare.over);
        spare = omega (arith, none_);
      }))

  -- two workers become one
  pub merges : (other : ℕ) (v w : View) → 0 < v.spare → w.away ≡ [] → Joins {S = S} (Kept p) id v other w (merged v w) (spent w)
  merges other v w worker none_away =
      let jm = sum_by-append (λ (x : Tally). x.made) v.joined (tally_of w ∷ w.joined) in
      let jm' = sum_by-append (λ (x : Tally). x.made) (tally_of w ∷ []) w.joined in
      let je = sum_by-append (λ (x : Tally). x.ended) v.joined (tally_of w ∷ w.joined) in
      let je' = sum_by-append (λ (x : Tally). x.ended) (tally_of w ∷ []) w.joined in
      join_allowed p id other v w (merged v w) (record {
        shared = refl;
        slots = record { unused = refl; used = refl; away = refl; none_away = none_away };
        bare = λ z. absurd (omega arith);
        tally = record {
          made = refl;
          ended = refl;
          counts = refl;
          all_made = omega (arith, jm, jm');
          all_ended = omega (arith, je, je');
          joined = λ t h. ⊎_elim (λ a. inl a) (λ b. ⊎_elim (λ e. inr (inl e)) (λ c. inr (inr c)) b) (member_split t v.joined (tally_of w ∷ w.joined) h);
        };
        lone = λ j h. member_split j v.lone w.lone h;
        holds = λ x o. occurs_split x v.holds w.holds o;
      }) (joins_allowed p.numbers id other v w (merged v w) (record { holds = refl; room = refl; size = refl; taken = refl; full = refl; passes = refl; limit = refl; over = refl; spare = refl }))

-- the rule holds at the start
pub begins : {S : Type 0} (p : Terms S) (limit : ℕ) (slots : List ℕ) (xs : List S) → limit ≤ 2 ^ 18 → 0 < p.workers → p.workers ≤ 64 → ((j : ℕ) → slot_times j slots ≤ 1) → ((j : ℕ) → Member j slots → j < length xs) → ((j : ℕ) (y : S) → get_elem? xs j ≡ some y → IsFresh p j y)
    → Kept p (opening (zeroes (p.numbers + 1)) xs (first_view (2 ^ 24) p.numbers limit p.workers slots))
begins p limit slots xs few some_ all once inside fresh = record {
  counted = starts p.numbers limit p.workers slots xs few all;
  workers = omega arith;
  bare = λ id v at none_. let e : p.workers ≡ v.spare = ap (λ (z : View). z.spare) (only_one id v at) in absurd (omega (arith, e, none_, some_));
  lone = λ id n v at h. absurd (subst (λ (z : View). Member n z.lone) (sym (only_one id v at)) h);
  tallied = record {
    live = let z = zero-at (p.numbers + 1) p.numbers in omega (arith, z);
    own = λ id v at c h. absurd (subst (λ (z : View). Member c z.counts) (sym (only_one id v at)) h);
    joined = λ id v at t ht c h. absurd (subst (λ (z : View). Member t z.joined) (sym (only_one id v at)) ht);
  };
  slotted = slotted_start p (zeroes (p.numbers + 1)) xs (first_view (2 ^ 24) p.numbers limit p.workers slots) refl refl once inside fresh;
}
  where
    only_one : (id : ℕ) (v : View) → get_elem? (first_view (2 ^ 24) p.numbers limit p.workers slots ∷ []) id ≡ some v → first_view (2 ^ 24) p.numbers limit p.workers slots ≡ v
    only_one zero v at = some-injective (first_view (2 ^ 24) p.numbers limit p.workers slots) v at
    only_one (suc id) v at = absurd (some-ne-none v (sym at))
