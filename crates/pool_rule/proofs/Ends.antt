-- A token with all the room leaves none to the others, so what it doesn't hold isn't held.
use Rattle.std.proofs.Common.{◌≡◌, ◌≢◌, ⊎_elim, ◌+◌, ℕ, suc, ◌<◌, ◌≤◌, List, [], ◌∷◌, length, map, sum_by, get_or, set, refl, sym, ◌∙◌, ap, subst, arith}
use Rattle.std.proofs.lemmas.List.{map-set, set-set}
use Rattle.std.proofs.lemmas.List.Sums.{sum_by-append}
use mathlib.Core.Option.{some}
use mathlib.Core.Logic.{dite}
use native.Mathlib.Decide.{ℕ_discrete}
use lib.ListN.{get_elem?}
use Rattle.atomic_table.specs.Table.{State}
use Rattle.atomic_table.proofs.Lists.{at_set, set_else, set_again}
use Rattle.node_forest.specs.Label.{Node}
use Rattle.node_forest.specs.Members.{Occurs}
use Rattle.count_core.specs.Holders.{holders}
use Rattle.count_core.specs.Steps.{roots}
use Rattle.pool_rule.specs.Views.{View, blank, spent}
use Rattle.pool_rule.specs.Rules.{holds_of, rooms, passes, spares, Among}
use Rattle.pool_rule.proofs.Pools.{roots_set}
use Rattle.pool_rule.proofs.Taken.{view_at}
use Rattle.pool_rule.specs.Notes.{Tally}
use Rattle.pool_rule.specs.Pools.{Terms, IsBare, IsKnown, made_by, ended_by, Kept}
use Rattle.pool_rule.proofs.Tallies.{sum-set}
use Rattle.pool_rule.proofs.Worlds.{held_at, length-rooms, passes_set, spares_set, sane_set, sane_at, set_same, word_world, width_world}

empty_list : (hs : List Node) → length hs ≤ 0 → hs ≡ []
empty_list [] h = refl
empty_list (x ∷ xs) h = absurd (omega arith)

passes_within : (views : List View) (id : ℕ) (v : View) → get_elem? views id ≡ some v → v.passes ≤ passes views
passes_within views id v at = let a = passes_set views id v (blank 0 0 0 0) at in omega arith

-- where one token has all shares of workers, each other token has room for its passes alone
spare_within : (views : List View) (id other : ℕ) (v w : View) → get_elem? views id ≡ some v → get_elem? views other ≡ some w → other ≢ id → v.spare + w.spare ≤ spares views
spare_within views id other v w at there ne =
    let a = spares_set views id v (blank 0 0 0 0) at in
    let b = spares_set (set views id (blank 0 0 0 0)) other w (blank 0 0 0 0) (set_else views id other (blank 0 0 0 0) ne ∙ there) in
    omega arith

rooms_below : (views : List View) → ((id : ℕ) (v : View) → get_elem? views id ≡ some v → v.room ≤ v.passes) → rooms views ≤ passes views
rooms_below [] h = omega arith
rooms_below (x ∷ xs) h = let a = h 0 x refl in let b = rooms_below xs (λ id v at. h (suc id) v at) in omega arith

-- where one token has all shares and no pass is live, the others hold nothing
pub gone_else : {S : Type 0} (p : Terms S) (s : State S View) (id : ℕ) (v : View) → Kept p s → get_elem? s.views id ≡ some v → v.spare ≡ p.workers → v.passes ≡ 0 → get_or s.words p.numbers 0 ≡ 0
    → roots (map holds_of (set s.views id (spent v))) ≡ []
gone_else p s id v r at all own idle_ =
    let k : ℕ = p.numbers in
    let count = r.counted in
    let z : View = spent v in
    let others : List View = set s.views id z in
    let small = rooms_below others (λ j w there. ⊎_elim
    (λ h. let a : 0 ≡ w.room = ap (λ (y : View). y.room) h.1 in omega arith)
    (λ h. let a = spare_within s.views id j v w at h.1 h.0 in let e = r.workers in let bare = (r.bare j w h.1 (omega arith)).room in omega arith)
    (at_set s.views id j z w there)) in
    let q = passes_set s.views id v z at in
    let live = count.live in
    let mine = sane_at k s.views id v count.sane at in
    let sane = sane_set k s.views id z count.sane (record { size = mine.size; roomy = omega arith; narrow = λ t o. absurd o; limited = mine.limited; fewer = omega arith }) in
    let b = length-rooms k others sane in
    empty_list (roots (map holds_of others)) (omega arith)

-- so what stands in any tree stands in its trees
pub held_here : {S : Type 0} (p : Terms S) (s : State S View) (id : ℕ) (v : View) → Kept p s → get_elem? s.views id ≡ some v → v.spare ≡ p.workers → v.passes ≡ 0 → get_or s.words p.numbers 0 ≡ 0
    → (x : Node) → Occurs x (roots (map holds_of s.views)) → Occurs x v.holds
held_here p s id v r at all own idle_ x o =
    let back : set (set s.views id (spent v)) id v ≡ s.views = set-set s.views id (spent v) v ∙ set_again s.views id v at in
    ⊎_elim
    (λ h. h)
    (λ h. absurd (subst (λ (ts : List Node). Occurs x ts) (gone_else p s id v r at all own idle_) h))
    (roots_set (set s.views id (spent v)) id v x (subst (λ (l : List View). Occurs x (roots (map holds_of l))) (sym back) o))

pub ends : {S : Type 0} (p : Terms S) (s : State S View) (id : ℕ) (v : View) → Kept p s → get_elem? s.views id ≡ some v → v.spare ≡ p.workers → v.passes ≡ 0 → get_or s.words p.numbers 0 ≡ 0 → v.holds ≡ []
    → (n : ℕ) → n < p.numbers → get_or s.words n 0 ≡ 0
ends p s id v r at all own idle_ nothing n l =
    let k : ℕ = p.numbers in
    let count = r.counted in
    let z : View = spent v in
    let others : List View = set s.views id z in
    let gone = gone_else p s id v r at all own idle_ in
    let same_ : set (map holds_of s.views) id [] ≡ map holds_of s.views =
    ap (set (map holds_of s.views) id) (sym (held_at s.views id v at ∙ nothing)) ∙ set_same (map holds_of s.views) id [] in
    let same : roots (map holds_of s.views) ≡ [] = ap roots (sym (map-set holds_of s.views id z ∙ same_)) ∙ gone in
    let w = width_world k s count.width in
    let c = count.sound.counted n (omega arith) in
    sym (word_world k s n l) ∙ c ∙ ap (λ (ts : List Node). holders ts n) same

sum-none : (f : View → ℕ) (views : List View) → ((id : ℕ) (v : View) → get_elem? views id ≡ some v → f v ≡ 0) → sum_by f views ≡ 0
sum-none f [] h = refl
sum-none f (x ∷ xs) h = omega (arith, h 0 x refl, sum-none f xs (λ id v at. h (suc id) v at), sum_by-append f (x ∷ []) xs)

-- the others made no counted and no uncounted step
module _ {S : Type 0} (p : Terms S) (s : State S View) (id : ℕ) (v : View) (r : Kept p s) (at : get_elem? s.views id ≡ some v) (all : v.spare ≡ p.workers) where
  pub bare_else : (j : ℕ) (w : View) → get_elem? s.views j ≡ some w → j ≢ id → IsBare w
  bare_else j w there ne = r.bare j w there (omega (arith, spare_within s.views id j v w at there ne, r.workers, all))

  made_all : sum_by made_by s.views ≡ made_by v
  made_all =
      let none_ = sum-none made_by (set s.views id (spent v)) (λ j w there. ⊎_elim
      (λ h. ap made_by (sym h.1))
      (λ h. let bare = bare_else j w h.1 h.0 in omega (arith, bare.made, ap (λ (l : List Tally). sum_by (λ (x : Tally). x.made) l) bare.joined))
      (at_set s.views id j (spent v) w there)) in
      omega (arith, sum-set made_by s.views id v (spent v) at, none_)

  ended_all : sum_by ended_by s.views ≡ ended_by v
  ended_all =
      let none_ = sum-none ended_by (set s.views id (spent v)) (λ j w there. ⊎_elim
      (λ h. ap ended_by (sym h.1))
      (λ h. let bare = bare_else j w h.1 h.0 in omega (arith, bare.ended, ap (λ (l : List Tally). sum_by (λ (x : Tally). x.ended) l) bare.joined))
      (at_set s.views id j (spent v) w there)) in
      omega (arith, sum-set ended_by s.views id v (spent v) at, none_)

  -- where that token ended as many passes as it made, no pass is live
  pub settled : made_by v ≡ ended_by v → get_or s.words p.numbers 0 ≡ 0
  settled ended = omega (arith, r.tallied.live, made_all, ended_all, ended)

  pub known : IsKnown v
  known = record {
    own = λ c h. let i = r.tallied.own id v at c h in record { most = omega (arith, i.most, made_all); least = omega (arith, i.least, ended_all) };
    joined = λ t ht c h. let i = r.tallied.joined id v at t ht c h in record { most = omega (arith, i.most, made_all); least = omega (arith, i.least, ended_all) };
    taken = λ n h. let t = r.counted.full n (record { id = id; view = v; at = at; among = h }) in
        dite (ℕ_discrete t.id id)
        (λ e. subst (λ (z : View). Among n z.taken) (view_at s.views t.id id t.view v t.at at e) t.among)
        (λ ne. absurd (subst (λ (l : List ℕ). Among n l) (bare_else t.id t.view t.at ne).taken t.among));
  }

pub empties : {S : Type 0} (p : Terms S) (s : State S View) (id : ℕ) (v : View) → Kept p s → get_elem? s.views id ≡ some v → v.spare ≡ p.workers → v.passes ≡ 0 → made_by v ≡ ended_by v → v.holds ≡ [] → (n : ℕ) → n < p.numbers → get_or s.words n 0 ≡ 0
empties p s id v r at all own ended nothing = ends p s id v r at all own (settled p s id v r at all ended) nothing
