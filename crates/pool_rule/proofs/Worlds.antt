-- The world of a table, and what a change of one word and one view makes of it.
use Rattle.std.proofs.Common.{◌≡◌, ◌≢◌, ⊎_elim, ℕ, zero, suc, ◌+◌, ◌<◌, ◌≤◌, List, [], ◌∷◌, length, map, get_or, set, take, refl, sym, ◌∙◌, ap, subst, arith, length-append, get_or-set_same, get_or-set_other}
use Rattle.std.proofs.lemmas.List.{map-set, take-set-le, get_or-take, length-map, length-take-le}
use Rattle.std.proofs.Math.Seq.{take-set-lt}
use mathlib.Core.Option.{some, some-injective, some-ne-none}
use lib.ListN.{get_elem?}
use Rattle.atomic_table.specs.Table.{State, keeps, stepped}
use Rattle.node_forest.specs.Label.{Node}
use Rattle.node_forest.proofs.Members.{occurs_split}
use Rattle.count_core.specs.Steps.{changed, with_live, word_at, roots}
use Rattle.pool_rule.specs.Views.{View}
use Rattle.pool_rule.specs.Rules.{holds_of, world, rooms, passes, overs, spares, Narrow, IsSane, AreSane}

pub at_lt : {A : Type 0} (l : List A) (i : ℕ) (a : A) → get_elem? l i ≡ some a → i < length l
at_lt [] i a e = absurd (some-ne-none a (sym e))
at_lt (x ∷ xs) zero a e = omega arith
at_lt (x ∷ xs) (suc i) a e = let r = at_lt xs i a e in omega arith

pub set_same : {A : Type 0} (l : List A) (i : ℕ) (d : A) → set l i (get_or l i d) ≡ l
set_same [] i d = refl
set_same (x ∷ xs) zero d = refl
set_same (x ∷ xs) (suc i) d = ap (λ (ys : List _). x ∷ ys) (set_same xs i d)

-- what a token holds
pub held_at : (views : List View) (id : ℕ) (v : View) → get_elem? views id ≡ some v → get_or (map holds_of views) id [] ≡ v.holds
held_at [] id v e = absurd (some-ne-none v (sym e))
held_at (x ∷ xs) zero v e = ap holds_of (some-injective x v e)
held_at (x ∷ xs) (suc id) v e = held_at xs id v e

pub length-rooms : (k : ℕ) (views : List View) → AreSane k views → length (roots (map holds_of views)) ≤ rooms views
length-rooms k [] r = omega arith
length-rooms k (x ∷ xs) r = let a = length-rooms k xs r.1 in let b = r.0.roomy in let c = length-append x.holds (roots (map holds_of xs)) in omega arith

pub narrow-roots : (k : ℕ) (views : List View) → AreSane k views → Narrow (roots (map holds_of views))
narrow-roots k [] r t h = absurd h
narrow-roots k (x ∷ xs) r t h = ⊎_elim (λ a. r.0.narrow t a) (λ b. narrow-roots k xs r.1 t b) (occurs_split t x.holds (roots (map holds_of xs)) h)

pub rooms_set : (views : List View) (id : ℕ) (v w : View) → get_elem? views id ≡ some v → rooms (set views id w) + v.room ≡ rooms views + w.room
rooms_set [] id v w e = absurd (some-ne-none v (sym e))
rooms_set (x ∷ xs) zero v w e = let a : x.room ≡ v.room = ap (λ (y : View). y.room) (some-injective x v e) in omega arith
rooms_set (x ∷ xs) (suc id) v w e = let r = rooms_set xs id v w e in omega arith

pub passes_set : (views : List View) (id : ℕ) (v w : View) → get_elem? views id ≡ some v → passes (set views id w) + v.passes ≡ passes views + w.passes
passes_set [] id v w e = absurd (some-ne-none v (sym e))
passes_set (x ∷ xs) zero v w e = let a : x.passes ≡ v.passes = ap (λ (y : View). y.passes) (some-injective x v e) in omega arith
passes_set (x ∷ xs) (suc id) v w e = let r = passes_set xs id v w e in omega arith

pub overs_set : (views : List View) (id : ℕ) (v w : View) → get_elem? views id ≡ some v → overs (set views id w) + v.over ≡ overs views + w.over
overs_set [] id v w e = absurd (some-ne-none v (sym e))
overs_set (x ∷ xs) zero v w e = let a : x.over ≡ v.over = ap (λ (y : View). y.over) (some-injective x v e) in omega arith
overs_set (x ∷ xs) (suc id) v w e = let r = overs_set xs id v w e in omega arith

pub spares_set : (views : List View) (id : ℕ) (v w : View) → get_elem? views id ≡ some v → spares (set views id w) + v.spare ≡ spares views + w.spare
spares_set [] id v w e = absurd (some-ne-none v (sym e))
spares_set (x ∷ xs) zero v w e = let a : x.spare ≡ v.spare = ap (λ (y : View). y.spare) (some-injective x v e) in omega arith
spares_set (x ∷ xs) (suc id) v w e = let r = spares_set xs id v w e in omega arith

pub overs_le : (k : ℕ) (views : List View) → AreSane k views → overs views ≤ spares views
overs_le k [] r = omega arith
overs_le k (x ∷ xs) r = let a = overs_le k xs r.1 in let b = r.0.fewer in omega arith

pub sane_set : (k : ℕ) (views : List View) (id : ℕ) (w : View) → AreSane k views → IsSane k w → AreSane k (set views id w)
sane_set k [] id w r h = tt
sane_set k (x ∷ xs) zero w r h = (h, r.1)
sane_set k (x ∷ xs) (suc id) w r h = (r.0, sane_set k xs id w r.1 h)

pub sane_at : (k : ℕ) (views : List View) (id : ℕ) (v : View) → AreSane k views → get_elem? views id ≡ some v → IsSane k v
sane_at k [] id v r e = absurd (some-ne-none v (sym e))
sane_at k (x ∷ xs) zero v r e = subst (IsSane k) (some-injective x v e) r.0
sane_at k (x ∷ xs) (suc id) v r e = sane_at k xs id v r.1 e

module _ {S : Type 0} (k : ℕ) (s : State S View) where
  -- a step on the word of a number changes that word and its token's holds
  pub world_stepped : (id n m : ℕ) (w : View) (c : List (ℕ × S)) → n < k → world k (stepped s n m id c w keeps) ≡ changed (world k s) n m id w.holds
  world_stepped id n m w c l =
      let ne : k ≢ n = (λ e. omega arith) in
      let words = take-set-lt k s.words n m l in
      let live = get_or-set_other s.words n k m 0 ne in
      let views = map-set holds_of s.views id w in
      (λ i. record { words = words i; live = live i; views = views i })

  pub word_world : (n : ℕ) → n < k → word_at (world k s) n ≡ get_or s.words n 0
  word_world n l = get_or-take k s.words n 0 l

  pub width_world : length s.words ≡ k + 1 → length (world k s).words ≡ k
  width_world e = length-take-le k s.words (omega arith)

  pub places_world : length (world k s).views ≡ length s.views
  places_world = length-map s.views holds_of

  -- one word and one token's holds, as they were
  pub word_again : (id : ℕ) (v : View) (n m : ℕ) (hs : List Node) → get_elem? s.views id ≡ some v → n < k → m ≡ get_or s.words n 0 → hs ≡ v.holds → changed (world k s) n m id hs ≡ world k s
  word_again id v n m hs at l same is =
      let word : m ≡ get_or (take k s.words) n 0 = same ∙ sym (word_world n l) in
      let words : set (take k s.words) n m ≡ take k s.words = ap (set (take k s.words) n) word ∙ set_same (take k s.words) n 0 in
      let views : set (map holds_of s.views) id hs ≡ map holds_of s.views = ap (set (map holds_of s.views) id) (is ∙ sym (held_at s.views id v at)) ∙ set_same (map holds_of s.views) id [] in
      (λ i. record { words = words i; live = get_or s.words k 0; views = views i })

  -- a step on the word of live passes that leaves the token's holds
  pub world_live : (id : ℕ) (v w : View) (m : ℕ) (c : List (ℕ × S)) → get_elem? s.views id ≡ some v → length s.words ≡ k + 1 → w.holds ≡ v.holds → world k (stepped s k m id c w keeps) ≡ with_live (world k s) m
  world_live id v w m c at width same =
      let words = take-set-le k s.words k m (omega arith) in
      let live = get_or-set_same s.words k m 0 (omega arith) in
      let views = map-set holds_of s.views id w ∙ ap (set (map holds_of s.views) id) (same ∙ sym (held_at s.views id v at)) ∙ set_same (map holds_of s.views) id [] in
      (λ i. record { words = words i; live = live i; views = views i })
