-- One direct hold that goes to a token of its own.
use Rattle.std.proofs.Common.{◌≡◌, ◌≢◌, ⊎_elim, true, false, Bool, eq-eqb, ne_eqb, ℕ, ◌+◌, ◌<◌, ◌≤◌, inl, List, [], ◌∷◌, ◌++◌, length, map, set, refl, sym, ◌∙◌, ap, subst, arith}
use Rattle.std.specs.Prelude.{Some, not, ◌||◌}
use Rattle.std.proofs.lemmas.List.{map-set, map-append}
use mathlib.Core.Logic.{dite}
use mathlib.Core.Option.{some}
use native.Mathlib.Decide.{ℕ_discrete}
use lib.ListN.{get_elem?}
use Rattle.atomic_table.specs.Table.{State, Splits}
use Rattle.node_forest.specs.Label.{Node, number}
use Rattle.node_forest.specs.Members.{In}
use Rattle.node_forest.specs.Counts.{first}
use Rattle.node_forest.proofs.Members.{root_occurs, below_in, alone_out}
use Rattle.node_forest.proofs.Counts.{first_hit, first_miss}
use Rattle.count_core.specs.Holders.{skip_if}
use Rattle.count_core.specs.Views.{without, is_among, moving, staying}
use Rattle.count_core.specs.Steps.{split, Does, with_views, holds_at}
use Rattle.count_core.specs.Worlds.{IsSound}
use Rattle.count_core.proofs.Places.{without_hit, without_miss}
use Rattle.count_core.proofs.Moves.{step_sound}
use Rattle.pool_rule.specs.Views.{View, handing, holder}
use Rattle.pool_rule.specs.Rules.{holds_of, world, IsTaken, Ruled}
use Rattle.pool_rule.proofs.Worlds.{at_lt, held_at, rooms_set, passes_set, overs_set, spares_set, sane_set, sane_at, places_world}
use Rattle.pool_rule.proofs.Holds.{occurs_without}
use Rattle.pool_rule.proofs.Taken.{taken_set, full_set, taken_longer, full_longer}
use Rattle.pool_rule.proofs.Steps.{first_held}
use Rattle.pool_rule.proofs.Tokens.{rooms-append, passes-append, overs-append, spares-append, sane_append}

among_same : (i p : ℕ) → i ≡ p → is_among i (p ∷ []) ≡ true
among_same i p e = ap (λ (b : Bool). b || false) (eq-eqb i p e)

among_other : (i p : ℕ) → i ≢ p → is_among i (p ∷ []) ≡ false
among_other i p ne = ap (λ (b : Bool). b || false) (ne_eqb i p ne)

-- behind the place nothing moves
moving-behind : (p i : ℕ) (hs : List Node) → p < i → moving (p ∷ []) i hs ≡ []
moving-behind p i [] l = refl
moving-behind p i (t ∷ ts) l =
    ap (λ (b : Bool). skip_if (not b) t (moving (p ∷ []) (i + 1) ts)) (among_other i p (λ e. omega arith)) ∙ moving-behind p (i + 1) ts (omega arith)

staying-behind : (p i : ℕ) (hs : List Node) → p < i → staying (p ∷ []) i hs ≡ hs
staying-behind p i [] l = refl
staying-behind p i (t ∷ ts) l =
    ap (λ (b : Bool). skip_if b t (staying (p ∷ []) (i + 1) ts)) (among_other i p (λ e. omega arith)) ∙ ap (λ (z : List Node). t ∷ z) (staying-behind p (i + 1) ts (omega arith))

-- the first hold with a number stands at a place, and alone moves from there
pub record Place (n i : ℕ) (t : Node) (hs : List Node) : Type 0 where
  pub place : ℕ
  pub from : i ≤ place
  pub below : place < i + length hs
  pub moves : moving (place ∷ []) i hs ≡ t ∷ []
  pub stay : staying (place ∷ []) i hs ≡ without n hs

pub place_of : (n i : ℕ) (t : Node) (hs : List Node) → first n hs ≡ Some t → Place n i t hs
place_of n i t [] e = absurd (cc)
place_of n i t (x ∷ xs) e =
    dite (ℕ_discrete (number x) n)
    (λ hit.
    let is : x ≡ t = (let s : Some x ≡ Some t = sym (first_hit n x xs hit) ∙ e in cc) in
    record {
      place = i;
      from = omega arith;
      below = omega arith;
      moves = ap (λ (b : Bool). skip_if (not b) x (moving (i ∷ []) (i + 1) xs)) (among_same i i refl) ∙ (λ q. is q ∷ moving-behind i (i + 1) xs (omega arith) q);
      stay = ap (λ (b : Bool). skip_if b x (staying (i ∷ []) (i + 1) xs)) (among_same i i refl) ∙ (staying-behind i (i + 1) xs (omega arith) ∙ sym (without_hit n x xs hit));
    })
    (λ miss.
    let r = place_of n (i + 1) t xs (sym (first_miss n x xs miss) ∙ e) in
    let from = r.from in
    let below = r.below in
    let p : ℕ = r.place in
    let apart : i ≢ p = (λ q. omega arith) in
    record {
      place = p;
      from = omega arith;
      below = omega arith;
      moves = ap (λ (b : Bool). skip_if (not b) x (moving (p ∷ []) (i + 1) xs)) (among_other i p apart) ∙ r.moves;
      stay = ap (λ (b : Bool). skip_if b x (staying (p ∷ []) (i + 1) xs)) (among_other i p apart) ∙ (ap (λ (z : List Node). x ∷ z) r.stay ∙ sym (without_miss n x xs miss));
    })

pub length-without : (t : Node) (hs : List Node) → In t hs → length (without (number t) hs) + 1 ≡ length hs
length-without t [] h = absurd h
length-without t (x ∷ xs) h =
    dite (ℕ_discrete (number x) (number t))
    (λ e. let a = ap (λ (z : List Node). length z) (without_hit (number t) x xs e) in omega arith)
    (λ ne. let there : In t xs = ⊎_elim (λ e. absurd (ne (ap number (sym e)))) (λ i. i) h in
    let a = ap (λ (z : List Node). length z) (without_miss (number t) x xs ne) in let r = length-without t xs there in omega arith)

module _ {S : Type 0} (k id : ℕ) (v : View) (t : Node) (h : In t v.holds) where
  pub hand_place : (s : State S View) → Ruled k s → get_elem? s.views id ≡ some v → Place (number t) 0 t (holds_at (world k s) id)
  hand_place s r at =
      subst (λ (hs : List Node). Place (number t) 0 t hs) (sym (held_at s.views id v at)) (place_of (number t) 0 t v.holds (first_held k s id v r at t h))

  pub hand_does : (s : State S View) (r : Ruled k s) (at : get_elem? s.views id ≡ some v)
      → Does (split id ((hand_place s r at).place ∷ [])) (world k s) true (world k record { words = s.words; homes = s.homes; views = set s.views id (handing t v) ++ holder t v ∷ [] })
  hand_does s r at =
      let p = hand_place s r at in
      let below = p.below in
      let stay : without (number t) v.holds ≡ staying (p.place ∷ []) 0 (holds_at (world k s) id) =
      ap (without (number t)) (sym (held_at s.views id v at)) ∙ sym p.stay in (
        record {
          view = (let a = at_lt s.views id v at in let q = places_world k s in omega arith);
          different = (refl, tt);
          below = (omega arith, tt);
        },
        ap (with_views (world k s)) (map-append holds_of (set s.views id (handing t v)) (holder t v ∷ [])
            ∙ ap (λ (z : List (List Node)). z ++ (t ∷ []) ∷ []) (map-set holds_of s.views id (handing t v))
            ∙ (λ i. set (map holds_of s.views) id (stay i) ++ sym p.moves i ∷ [])),
      )

  pub hands_allowed : 0 < v.passes → Splits {S = S} (Ruled k) id v (handing t v) (holder t v)
  hands_allowed own s r at =
      let mine = sane_at k s.views id v r.sane at in
      let a = rooms_set s.views id v (handing t v) at in
      let b = rooms-append (set s.views id (handing t v)) (holder t v) in
      let d = r.rooms in
      let pa = passes_set s.views id v (handing t v) at in
      let pb = passes-append (set s.views id (handing t v)) (holder t v) in
      let pd = r.live in
      let oa = overs_set s.views id v (handing t v) at in
      let ob = overs-append (set s.views id (handing t v)) (holder t v) in
      let od = r.low in
      let sa = spares_set s.views id v (handing t v) at in
      let sb = spares-append (set s.views id (handing t v)) (holder t v) in
      let sd = r.spares in
      let one = mine.roomy in
      let less = length-without t v.holds h in
      let does = hand_does s r at in
      record {
        width = r.width;
        sound = subst IsSound (sym does.1) (step_sound (split id ((hand_place s r at).place ∷ [])) (world k s) r.sound does.0);
        sane = sane_append k (set s.views id (handing t v)) (holder t v)
            (sane_set k s.views id (handing t v) r.sane (record { size = mine.size; roomy = omega arith; narrow = λ x o. mine.narrow x (occurs_without (number t) x v.holds o); limited = mine.limited; fewer = mine.fewer }))
            (record { size = mine.size; roomy = omega arith; narrow = λ x o. mine.narrow x (below_in x t v.holds (root_occurs t v.holds h) (alone_out x t o)); limited = mine.limited; fewer = omega arith });
        rooms = omega arith;
        live = omega arith;
        low = omega arith;
        spares = omega arith;
        used = λ n l some_. later n (r.used n l some_);
        full = λ n u. later n (⊎_elim (λ a. r.full n a) (λ b. absurd b)
            (full_set s.views id v (handing t v) at {X = ⊥} n (λ a. inl a) (full_longer (set s.views id (handing t v)) (holder t v) n refl u)));
      }
    where
      later : (n : ℕ) → IsTaken n s.views → IsTaken n (set s.views id (handing t v) ++ holder t v ∷ [])
      later n t' = taken_longer (set s.views id (handing t v)) (holder t v ∷ []) n (taken_set s.views id v (handing t v) at n (λ a. a) t')
