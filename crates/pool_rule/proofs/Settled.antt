-- What the slots have where one token is all workers of a pool and no slot is out with it.
use Rattle.std.proofs.Common.{◌≡◌, ◌≢◌, ◌⊎◌, inl, inr, ⊎_elim, ℕ, zero, suc, ◌<◌, ◌≤◌, List, [], ◌∷◌, length, map, get_or, refl, sym, ◌∙◌, ap, subst, arith}
use mathlib.Core.Logic.{dite}
use mathlib.Core.Option.{Option, none, some, some-injective}
use native.Mathlib.Decide.{ℕ_discrete, dec_le}
use lib.ListN.{get_elem?}
use Rattle.atomic_table.specs.Table.{State}
use Rattle.node_forest.specs.Counts.{times, edges_in}
use Rattle.node_forest.specs.Forest.{children, nodes_of}
use Rattle.node_forest.specs.Label.{Node, number}
use Rattle.node_forest.specs.Members.{Occurs}
use Rattle.node_forest.proofs.Counts.{times_some, first_cases}
use Rattle.node_forest.proofs.Members.{root_occurs, child_occurs}
use Rattle.count_core.specs.SoundBelow.{sum_below, edge, holders_below}
use Rattle.count_core.specs.Steps.{roots}
use Rattle.count_core.proofs.Moves.{sound_of}
use Rattle.count_core.proofs.Sums.{sum_some}
use Rattle.pool_rule.specs.Notes.{Use}
use Rattle.pool_rule.specs.Pools.{Terms, Member, Has, IsFresh, IsCalled, IsHome, IsLive, IsBare, slot_of, used_of, away_of, made_by, ended_by, Kept}
use Rattle.pool_rule.specs.Rules.{holds_of, world}
use Rattle.pool_rule.specs.Views.{View}
use Rattle.pool_rule.specs.Ends.{IsSettled}
use Rattle.pool_rule.proofs.Ends as end
use Rattle.pool_rule.proofs.Ends.{bare_else, held_here}
use Rattle.pool_rule.proofs.Slots.{one_use}
use Rattle.pool_rule.proofs.Steps.{word_some}
use Rattle.pool_rule.proofs.Taken.{view_at}
use Rattle.pool_rule.proofs.Worlds.{at_lt, word_world, width_world}

-- a number with a holder stands in the trees
edge_node : (size n : ℕ) (trees : List Node) → 1 ≤ sum_below size (edge trees n) → (x : Node) × Occurs x trees × (number x ≡ n)
edge_node size n trees h =
    let q = sum_some size (edge trees n) h in
    ⊎_elim
    (λ l. let z : edge trees n q.0 ≡ 0 = ap (edges_in n) l.0 in absurd (omega (arith, z, q.2)))
    (λ l. let z : edge trees n q.0 ≡ times n (children l.0) = ap (edges_in n) l.1 in
    let c = times_some n (children l.0) (omega (arith, z, q.2)) in (c.0, child_occurs c.0 l.0 trees l.2 c.1, c.2))
    (first_cases q.0 (nodes_of trees))

holder_node : (size n : ℕ) (trees : List Node) → 1 ≤ holders_below size trees n → (x : Node) × Occurs x trees × (number x ≡ n)
holder_node size n trees h =
    dite (dec_le 1 (times n trees))
    (λ root. let c = times_some n trees root in (c.0, root_occurs c.0 trees c.1, c.2))
    (λ none_. edge_node size n trees (omega (arith, h, none_)))

-- a slot is out or at home
home_or_out : {S : Type 0} (homes : List (Option S)) (j : ℕ) → j < length homes → (get_elem? homes j ≡ some none) ⊎ ((y : S) × (get_elem? homes j ≡ some (some y)))
home_or_out [] j l = absurd (omega (arith, l))
home_or_out (none ∷ hs) zero l = inl refl
home_or_out (some y ∷ hs) zero l = inr (y, refl)
home_or_out (h ∷ hs) (suc j) l = home_or_out hs j (omega (arith, l))

-- a number that stands in a token's trees is in use
pub in_use : {S : Type 0} (p : Terms S) (s : State S View) (id : ℕ) (v : View) → Kept p s → get_elem? s.views id ≡ some v → (x : Node) → Occurs x v.holds → get_or s.words (number x) 0 ≢ 0
in_use p s id v r at x o e = let some_ = word_some p.numbers s id v r.counted at x o in omega (arith, some_, e)

-- where one token is all workers and ended the passes that it made, a number in use stands in its trees
pub in_use_held : {S : Type 0} (p : Terms S) (s : State S View) (id : ℕ) (v : View) → Kept p s → get_elem? s.views id ≡ some v → v.spare ≡ p.workers → v.passes ≡ 0 → made_by v ≡ ended_by v
    → (n : ℕ) → n < p.numbers → get_or s.words n 0 ≢ 0 → (x : Node) × Occurs x v.holds × (number x ≡ n)
in_use_held p s id v r at all own ended n low some_ =
    let c = sound_of (world p.numbers s) r.counted.sound in
    let w = width_world p.numbers s r.counted.width in
    let e = c.counted n (omega (arith, w, low)) in
    let f = word_world p.numbers s n low in
    let q = holder_node (length (world p.numbers s).words) n (roots (map holds_of s.views)) (omega (arith, e, f, some_)) in
    (q.0, held_here p s id v r at all own (end.settled p s id v r at all ended) q.0 q.1, q.2)

module _ {S : Type 0} (p : Terms S) (s : State S View) (id : ℕ) (v : View) (r : Kept p s) (at : get_elem? s.views id ≡ some v) (all : v.spare ≡ p.workers) (home : v.away ≡ []) where
  -- what tokens that are no workers don't have is this token's
  own : {A : Type 0} (f : View → List A) (x : A) → ((w : View) → IsBare w → f w ≡ []) → Has f x s.views → Member x (f v)
  own {A} f x bare h =
      dite (ℕ_discrete h.id id)
      (λ e. subst (λ (z : View). Member x (f z)) (view_at s.views h.id id h.view v h.at at e) h.member)
      (λ ne. absurd (subst (λ (l : List A). Member x l) (bare h.view (bare_else p s id v r at all h.id h.view h.at ne)) h.member))

  none_out : (u : Use) → Has away_of u s.views → ⊥
  none_out u h = subst (λ (l : List Use). Member u l) home (own away_of u (λ w b. b.away) h)

  has_used : (u : Use) → Member u v.used → Has used_of u s.views
  has_used u m = record { id = id; view = v; at = at; member = m }

  -- the value of a slot that is at home is one
  value_once : (i j : ℕ) (x y : S) → i ≡ j → get_elem? s.homes i ≡ some (some x) → get_elem? s.homes j ≡ some (some y) → x ≡ y
  value_once i j x y same a b = some-injective x y (some-injective (some x) (some y) (sym a ∙ (ap (get_elem? s.homes) same ∙ b)))

  settled_at : (j : ℕ) (y : S) → get_elem? s.homes j ≡ some (some y) → IsSettled p s.words v j y
  settled_at j y e = record {
    value = ⊎_elim (λ f. inl f) (λ q. inr (q.0, own used_of q.0 (λ w b. b.used) q.1, q.2, q.3)) (r.slotted.value j y e);
    once = λ u w mu mw a b. one_use s.views r.slotted.once u w (has_used u mu) (has_used w mw) (a ∙ sym b);
    called = λ free u m is. ⊎_elim
        (λ l. absurd (l.word (free u.number l.low)))
        (λ q. ⊎_elim
        (λ g. absurd (none_out u g))
        (λ h. subst (λ (i : ℕ). IsCalled p i u.length y) is (subst (λ (z : S). IsCalled p u.slot u.length z) (value_once u.slot j h.value y is h.at e) h.is))
        q)
        (r.slotted.used u (has_used u m));
  }

  -- the external of a slot whose box wasn't called is a node of some tree
  live_inside : (u : Use) → IsLive p.numbers s.words (roots (map holds_of s.views)) u → u.slot < length s.homes
  live_inside u l =
      let c = sound_of (world p.numbers s) r.counted.sound in
      let w = width_world p.numbers s r.counted.width in
      let low = l.low in
      let e = c.counted u.number (omega (arith, w, low)) in
      let word = l.word in
      let f = word_world p.numbers s u.number low in
      let q = holder_node (length (world p.numbers s).words) u.number (roots (map holds_of s.views)) (omega (arith, e, f, word)) in
      let here = l.node q.0 q.1 q.2 in
      let home_ = (r.slotted.external q.0 q.1 here.0).0 in
      omega (arith, at_lt s.homes q.0.0.more (some home_.value) home_.at, ap slot_of here.1)

  pub used_inside : (u : Use) → Member u v.used → u.slot < length s.homes
  used_inside u m = ⊎_elim
      (λ l. live_inside u l)
      (λ q. ⊎_elim (λ g. absurd (none_out u g)) (λ h. at_lt s.homes u.slot (some h.value) h.at) q)
      (r.slotted.used u (has_used u m))

  pub settled : (j : ℕ) → j < length s.homes → (y : S) × (get_elem? s.homes j ≡ some (some y)) × IsSettled p s.words v j y
  settled j l = ⊎_elim
      (λ out. let q = r.slotted.out j out in absurd (none_out q.0 q.1))
      (λ q. (q.0, q.1, settled_at j q.0 q.1))
      (home_or_out s.homes j l)
