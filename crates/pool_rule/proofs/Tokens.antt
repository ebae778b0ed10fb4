-- The first token, a token that is cut in two, and two that become one.
use Rattle.std.proofs.Common.{◌≡◌, ◌≢◌, inl, ⊎_elim, true, ℕ, zero, suc, ◌+◌, ◌^◌, ◌<◌, ◌≤◌, List, [], ◌∷◌, ◌++◌, length, map, get_or, set, take, refl, sym, ◌∙◌, ap, subst, arith, length-append}
use Rattle.std.proofs.lemmas.List.{map-set, map-append}
use Rattle.std.proofs.Math.Numerals.{add-one}
use mathlib.Core.Option.{some}
use lib.ListN.{get_elem?}
use Rattle.atomic_table.specs.Table.{State, opening, Splits, Joins}
use mathlib.Core.Logic.{dite}
use native.Mathlib.Decide.{ℕ_discrete}
use Rattle.atomic_table.proofs.Lists.{at_set, set_here, set_else}
use Rattle.node_forest.specs.Label.{Node}
use Rattle.node_forest.proofs.Members.{occurs_split}
use Rattle.count_core.specs.Views.{moving, staying}
use Rattle.count_core.specs.Steps.{split, merge, Does, with_views, holds_at, zeroes}
use Rattle.count_core.specs.Worlds.{IsSound}
use Rattle.count_core.proofs.Moves.{step_sound}
use Rattle.count_core.proofs.Runs.{start_sound}
use Rattle.pool_rule.specs.Views.{View, blank, first_view, narrower, part_of, spent}
use Rattle.pool_rule.specs.Rules.{holds_of, world, rooms, passes, overs, spares, Among, IsTaken, IsFull, Narrow, IsSane, AreSane, Ruled}
use Rattle.pool_rule.proofs.Taken.{among_left, among_right, among_split, view_at, taken_set, full_set, taken_longer, full_longer, full_nothing}
use Rattle.pool_rule.proofs.Worlds.{at_lt, held_at, rooms_set, passes_set, overs_set, spares_set, sane_set, sane_at, places_world}

-- ---- at the start
take-more_zeroes : (k : ℕ) → take k (zeroes (suc k)) ≡ zeroes k
take-more_zeroes zero = refl
take-more_zeroes (suc k) = ap (λ (ws : List ℕ). 0 ∷ ws) (take-more_zeroes k)

take-zeroes : (k : ℕ) → take k (zeroes (k + 1)) ≡ zeroes k
take-zeroes k = ap (λ (n : ℕ). take k (zeroes n)) (add-one k) ∙ take-more_zeroes k

pub zero-at : (k n : ℕ) → get_or (zeroes k) n 0 ≡ 0
zero-at zero n = refl
zero-at (suc k) zero = refl
zero-at (suc k) (suc n) = zero-at k n

length-zeroes : (k : ℕ) → length (zeroes k) ≡ k
length-zeroes zero = refl
length-zeroes (suc k) = let r = length-zeroes k in omega arith

pub sane_blank : (k room limit spare : ℕ) → limit ≤ 2 ^ 18 → IsSane k (blank room k limit spare)
sane_blank k room limit spare l = record { size = refl; roomy = omega arith; narrow = λ t o. absurd o; limited = l; fewer = omega arith }

pub starts : {S : Type 0} (k limit workers : ℕ) (slots : List ℕ) (xs : List S) → limit ≤ 2 ^ 18 → workers ≤ 64 → Ruled k (opening (zeroes (k + 1)) xs (first_view (2 ^ 24) k limit workers slots))
starts k limit workers slots xs few some_ = record {
  width = length-zeroes (k + 1);
  sound = subst IsSound (λ i. record { words = sym (take-zeroes k) i; live = sym (zero-at (k + 1) k) i; views = [] ∷ [] }) (start_sound k 1);
  sane = (record { size = refl; roomy = omega arith; narrow = λ t o. absurd o; limited = few; fewer = omega arith }, tt);
  rooms = let z = zero-at (k + 1) k in omega arith;
  live = let z = zero-at (k + 1) k in omega arith;
  low = let z = zero-at (k + 1) k in omega arith;
  spares = omega arith;
  used = λ n l not_zero. absurd (not_zero (zero-at (k + 1) n));
  full = λ n u. absurd (full_nothing n (full_longer [] (first_view (2 ^ 24) k limit workers slots) n refl u));
}

-- ---- tokens cut in two
staying-none : (i : ℕ) (hs : List Node) → staying [] i hs ≡ hs
staying-none i [] = refl
staying-none i (t ∷ ts) = ap (λ (z : List Node). t ∷ z) (staying-none (i + 1) ts)

moving-none : (i : ℕ) (hs : List Node) → moving [] i hs ≡ []
moving-none i [] = refl
moving-none i (t ∷ ts) = moving-none (i + 1) ts

pub rooms-append : (a : List View) (w : View) → rooms (a ++ w ∷ []) ≡ rooms a + w.room
rooms-append [] w = omega arith
rooms-append (v ∷ vs) w = let r = rooms-append vs w in omega arith

pub passes-append : (a : List View) (w : View) → passes (a ++ w ∷ []) ≡ passes a + w.passes
passes-append [] w = omega arith
passes-append (v ∷ vs) w = let r = passes-append vs w in omega arith

pub overs-append : (a : List View) (w : View) → overs (a ++ w ∷ []) ≡ overs a + w.over
overs-append [] w = omega arith
overs-append (v ∷ vs) w = let r = overs-append vs w in omega arith

pub spares-append : (a : List View) (w : View) → spares (a ++ w ∷ []) ≡ spares a + w.spare
spares-append [] w = omega arith
spares-append (v ∷ vs) w = let r = spares-append vs w in omega arith

pub sane_append : (k : ℕ) (a : List View) (w : View) → AreSane k a → IsSane k w → AreSane k (a ++ w ∷ [])
sane_append k [] w r s = (s, tt)
sane_append k (v ∷ vs) w r s = (r.0, sane_append k vs w r.1 s)

module _ {S : Type 0} (k id : ℕ) (v : View) where
  pub split_does : (s : State S View) (room c : ℕ) → get_elem? s.views id ≡ some v
      → Does (split id []) (world k s) true (world k record { words = s.words; homes = s.homes; views = set s.views id (narrower room c v) ++ part_of room c v ∷ [] })
  split_does s room c at =
      let holds = held_at s.views id v at in
      let mine : holds_at (world k s) id ≡ v.holds = holds in
      let stay : v.holds ≡ staying [] 0 (holds_at (world k s) id) = sym mine ∙ sym (staying-none 0 (holds_at (world k s) id)) in
      let move : [] ≡ moving [] 0 (holds_at (world k s) id) = sym (moving-none 0 (holds_at (world k s) id)) in (
        record { view = (let a = at_lt s.views id v at in let p = places_world k s in omega arith); different = tt; below = tt },
        ap (with_views (world k s)) (map-append holds_of (set s.views id (narrower room c v)) (part_of room c v ∷ [])
            ∙ ap (λ (z : List (List Node)). z ++ [] ∷ []) (map-set holds_of s.views id (narrower room c v))
            ∙ (λ i. set (map holds_of s.views) id (stay i) ++ move i ∷ [])),
      )

  pub splits_allowed : (room c : ℕ) → length v.holds + room ≤ v.room → v.over < v.spare → Splits {S = S} (Ruled k) id v (narrower room c v) (part_of room c v)
  splits_allowed room c fits less s r at =
      let mine = sane_at k s.views id v r.sane at in
      let a = rooms_set s.views id v (narrower room c v) at in
      let b = rooms-append (set s.views id (narrower room c v)) (part_of room c v) in
      let d = r.rooms in
      let pa = passes_set s.views id v (narrower room c v) at in
      let pb = passes-append (set s.views id (narrower room c v)) (part_of room c v) in
      let pd = r.live in
      let oa = overs_set s.views id v (narrower room c v) at in
      let ob = overs-append (set s.views id (narrower room c v)) (part_of room c v) in
      let od = r.low in
      let sa = spares_set s.views id v (narrower room c v) at in
      let sb = spares-append (set s.views id (narrower room c v)) (part_of room c v) in
      let sd = r.spares in
      let does = split_does s room c at in
      record {
        width = r.width;
        sound = subst IsSound (sym does.1) (step_sound (split id []) (world k s) r.sound does.0);
        sane = sane_append k (set s.views id (narrower room c v)) (part_of room c v)
            (sane_set k s.views id (narrower room c v) r.sane (record { size = mine.size; roomy = omega arith; narrow = mine.narrow; limited = mine.limited; fewer = omega arith }))
            (record { size = mine.size; roomy = omega arith; narrow = λ t o. absurd o; limited = mine.limited; fewer = omega arith });
        rooms = omega arith;
        live = omega arith;
        low = omega arith;
        spares = omega arith;
        used = λ n l some_. later n (r.used n l some_);
        full = λ n u. later n (⊎_elim (λ a. r.full n a) (λ b. absurd b)
            (full_set s.views id v (narrower room c v) at {X = ⊥} n (λ a. inl a) (full_longer (set s.views id (narrower room c v)) (part_of room c v) n refl u)));
      }
    where
      later : (n : ℕ) → IsTaken n s.views → IsTaken n (set s.views id (narrower room c v) ++ part_of room c v ∷ [])
      later n t = taken_longer (set s.views id (narrower room c v)) (part_of room c v ∷ []) n (taken_set s.views id v (narrower room c v) at n (λ a. a) t)

-- ---- two tokens in one
set_swap : {A : Type 0} (l : List A) (i j : ℕ) (a b : A) → i ≢ j → set (set l i a) j b ≡ set (set l j b) i a
set_swap [] i j a b ne = refl
set_swap (x ∷ xs) zero zero a b ne = absurd (ne refl)
set_swap (x ∷ xs) zero (suc j) a b ne = refl
set_swap (x ∷ xs) (suc i) zero a b ne = refl
set_swap (x ∷ xs) (suc i) (suc j) a b ne = ap (λ (ys : List _). x ∷ ys) (set_swap xs i j a b (λ e. ne (ap suc e)))

narrow_both : (a b : List Node) → Narrow a → Narrow b → Narrow (a ++ b)
narrow_both a b p q t h = ⊎_elim (λ l. p t l) (λ r. q t r) (occurs_split t a b h)

-- what either token took, the first has taken now
joined_taken : (views : List View) (id other : ℕ) (v w b : View) → b.taken ≡ v.taken ++ w.taken → get_elem? views id ≡ some v → get_elem? views other ≡ some w → id ≢ other → (n : ℕ) → IsTaken n views
    → IsTaken n (set (set views id b) other (spent w))
joined_taken views id other v w b same at there ne n t =
    dite (ℕ_discrete t.id id)
    (λ e. here (among_left n v.taken w.taken (subst (λ (z : View). Among n z.taken) (view_at views t.id id t.view v t.at at e) t.among)))
    (λ a. dite (ℕ_discrete t.id other)
    (λ e. here (among_right n v.taken w.taken (subst (λ (z : View). Among n z.taken) (view_at views t.id other t.view w t.at there e) t.among)))
    (λ c. record { id = t.id; view = t.view; at = set_else (set views id b) other t.id (spent w) c ∙ (set_else views id t.id b a ∙ t.at); among = t.among }))
  where
    here : Among n (v.taken ++ w.taken) → IsTaken n (set (set views id b) other (spent w))
    here h = record { id = id; view = b; at = set_else (set views id b) other id (spent w) ne ∙ set_here views id b (at_lt views id v at); among = subst (λ (z : List ℕ). Among n z) (sym same) h }

joined_full : (views : List View) (id other : ℕ) (v w b : View) → b.full ≡ v.full ++ w.full → get_elem? views id ≡ some v → get_elem? views other ≡ some w → (n : ℕ)
    → IsFull n (set (set views id b) other (spent w)) → IsFull n views
joined_full views id other v w b same at there n u =
    ⊎_elim
    (λ h. absurd (subst (λ (z : View). Among n z.full) (sym h.1) u.among))
    (λ h. ⊎_elim
    (λ g. ⊎_elim (λ x. record { id = id; view = v; at = at; among = x }) (λ y. record { id = other; view = w; at = there; among = y })
    (among_split n v.full w.full (subst (λ (z : List ℕ). Among n z) same (subst (λ (z : View). Among n z.full) (sym g.1) u.among))))
    (λ g. record { id = u.id; view = u.view; at = g.1; among = u.among })
    (at_set views id u.id b u.view h.1))
    (at_set (set views id b) other u.id (spent w) u.view u.at)

-- what the count rule sees of a token that took in another
pub record Joined (v w b : View) : Type 0 where
  pub holds : b.holds ≡ v.holds ++ w.holds
  pub room : b.room ≡ v.room + w.room
  pub size : b.size ≡ v.size
  pub taken : b.taken ≡ v.taken ++ w.taken
  pub full : b.full ≡ v.full ++ w.full
  pub passes : b.passes ≡ v.passes + w.passes
  pub limit : b.limit ≡ v.limit
  pub over : b.over ≡ v.over + w.over
  pub spare : b.spare ≡ v.spare + w.spare

pub join_does : {S : Type 0} (k id other : ℕ) (v w b : View) (s : State S View) → b.holds ≡ v.holds ++ w.holds → get_elem? s.views id ≡ some v → get_elem? s.views other ≡ some w → other ≢ id
    → Does (merge id other) (world k s) true (world k record { words = s.words; homes = s.homes; views = set (set s.views id b) other (spent w) })
join_does k id other v w b s same at there apart =
    let ne : id ≢ other = (λ e. apart (sym e)) in
    let p = places_world k s in
    let i = at_lt s.views id v at in
    let j = at_lt s.views other w there in
    let hv = held_at s.views id v at in
    let hw = held_at s.views other w there in
    let views : map holds_of (set (set s.views id b) other (spent w)) ≡ set (set (map holds_of s.views) other []) id (holds_at (world k s) id ++ holds_at (world k s) other) =
    map-set holds_of (set s.views id b) other (spent w)
    ∙ ap (λ (l : List (List Node)). set l other []) (map-set holds_of s.views id b)
    ∙ set_swap (map holds_of s.views) id other b.holds [] ne
    ∙ ap (set (set (map holds_of s.views) other []) id) same
    ∙ (λ q. set (set (map holds_of s.views) other []) id (sym hv q ++ sym hw q)) in
    (record { view = omega arith; second = omega arith; different = ne }, ap (with_views (world k s)) views)

pub joins_allowed : {S : Type 0} (k id other : ℕ) (v w b : View) → Joined v w b → Joins {S = S} (Ruled k) id v other w b (spent w)
joins_allowed k id other v w b m s r at apart at' =
    let jr = m.room in
    let jp = m.passes in
    let jo = m.over in
    let js = m.spare in
    let jh = ap (λ (l : List Node). length l) m.holds in
    let jl = m.limit in
    let z : View = spent w in
    let there : get_elem? s.views other ≡ some w = sym (set_else s.views id other b apart) ∙ at' in
    let mine = sane_at k s.views id v r.sane at in
    let theirs = sane_at k s.views other w r.sane there in
    let long = length-append v.holds w.holds in
    let one = mine.roomy in
    let two = theirs.roomy in
    let x = rooms_set s.views id v b at in
    let y = rooms_set (set s.views id b) other w z at' in
    let d = r.rooms in
    let px = passes_set s.views id v b at in
    let py = passes_set (set s.views id b) other w z at' in
    let pd = r.live in
    let ox = overs_set s.views id v b at in
    let oy = overs_set (set s.views id b) other w z at' in
    let od = r.low in
    let sx = spares_set s.views id v b at in
    let sy = spares_set (set s.views id b) other w z at' in
    let sd = r.spares in
    let fv = mine.fewer in
    let fw = theirs.fewer in
    let ne : id ≢ other = (λ e. apart (sym e)) in
    let does = join_does k id other v w b s m.holds at there apart in
    record {
      width = r.width;
      sound = subst IsSound (sym does.1) (step_sound (merge id other) (world k s) r.sound does.0);
      sane = sane_set k (set s.views id b) other z
          (sane_set k s.views id b r.sane (record { size = m.size ∙ mine.size; roomy = omega arith; narrow = subst Narrow (sym m.holds) (narrow_both v.holds w.holds mine.narrow theirs.narrow); limited = omega (arith, jl, mine.limited); fewer = omega arith }))
          (record { size = theirs.size; roomy = omega arith; narrow = λ t o. absurd o; limited = theirs.limited; fewer = omega arith });
      rooms = omega arith;
      live = omega arith;
      low = omega arith;
      spares = omega arith;
      used = λ n l some_. joined_taken s.views id other v w b m.taken at there ne n (r.used n l some_);
      full = λ n u. joined_taken s.views id other v w b m.taken at there ne n (r.full n (joined_full s.views id other v w b m.full at there n u));
    }
