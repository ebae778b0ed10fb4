-- The boxes of all slots, where one token is all workers of a pool.
use Rattle.std.proofs.Common.{◌≡◌, ◌⊎◌, inl, inr, ⊎_elim, ℕ, zero, suc, ◌+◌, ◌<◌, List, [], ◌∷◌, ◌++◌, length, map, take, get_or, append-nil, refl, sym, ap, subst, ◌∙◌, arith}
use Rattle.std.proofs.lemmas.List.{length-map}
use Rattle.std.specs.Prelude.{Option, Some, None}
use Rattle.std.specs.Option.{option_map}
use mathlib.Core.Option.{some, some-injective, some-ne-none}
use lib.ListN.{get_elem?}
use Rattle.atomic_table.specs.Table.{Final, Seen}
use Rattle.cord_port.specs.declared.releaser.Releaser.{Ghosts}
use Rattle.node_forest.specs.Label.{Node, number}
use Rattle.node_forest.specs.Members.{Occurs}
use Rattle.node_forest.proofs.Members.{root_occurs}
use Rattle.pool_rule.specs.Ends.{IsSettled}
use Rattle.pool_rule.specs.Notes.{Use}
use Rattle.pool_rule.specs.Pools.{Terms, Handed, Box, Member, Kept}
use Rattle.pool_rule.specs.Views.{View}
use Rattle.pool_rule.proofs.Settled.{settled, used_inside, in_use}
use Rattle.pool_rule.proofs.Steps.{low}
use Rattle.pool_rule.proofs.Worlds.{at_lt}
use Rattle.node_pool.specs.declared.outlet.Outlet.{Outlet}
use Rattle.node_pool.specs.Boxes.{calls_after, latest_after, box_of}
use Rattle.node_pool.specs.Closes.{IsUsed, box_at, released, AreReturned}
use Rattle.node_pool.specs.Outlets.{box_in, boxes_in}

-- a box after the release that it had, if it had one
abbrev pub after : Box → Handed
after b = record { calls = calls_after b.handed.calls b.length; latest = latest_after b.handed.latest b.length }

-- what is seen of a box that was handed in
abbrev pub handed_in : {B : Type 0} → Ghosts B → B → Handed
handed_in r b = record { calls = r.calls_of b; latest = r.latest_of b }

no_box : {X : Type 0} (b : Box) → None ≡ Some b → X
no_box b e = absurd (cc)

module _ {B : Type 0} {r : Ghosts B} where
  abbrev pub seen_of : Outlet B r → Box
  seen_of o = box_of o.before o.latest o.length

  abbrev pub seen_in : Option (Outlet B r) → Option Box
  seen_in = option_map seen_of

  pub boxes_in-append : (xs ys : List (Option (Outlet B r))) → boxes_in (xs ++ ys) ≡ boxes_in xs ++ boxes_in ys
  boxes_in-append [] ys = refl
  boxes_in-append (None ∷ xs) ys = boxes_in-append xs ys
  boxes_in-append (Some o ∷ xs) ys = ap (λ (l : List B). o.inner ∷ l) (boxes_in-append xs ys)

  pub boxes_in-last : (xs : List (Option (Outlet B r))) (x : Option (Outlet B r)) → boxes_in (xs ++ x ∷ []) ≡ boxes_in xs ++ box_in x
  boxes_in-last xs x = boxes_in-append xs (x ∷ []) ∙ ap (λ (l : List B). boxes_in xs ++ l) (append-nil (box_in x))

  pub boxes_in-take : (xs : List (Option (Outlet B r))) (i : ℕ) (x : Option (Outlet B r)) → get_elem? xs i ≡ some x → boxes_in (take (suc i) xs) ≡ boxes_in (take i xs) ++ box_in x
  boxes_in-take [] i x e = absurd (some-ne-none x (sym e))
  boxes_in-take (y ∷ ys) zero x e = ap (λ (z : Option (Outlet B r)). box_in z ++ []) (some-injective y x e) ∙ append-nil (box_in x)
  boxes_in-take (None ∷ ys) (suc i) x e = boxes_in-take ys i x e
  boxes_in-take (Some o ∷ ys) (suc i) x e = ap (λ (l : List B). o.inner ∷ l) (boxes_in-take ys i x e)

  -- what a box is now, by what is seen of its slot
  pub handed_after : (o : Outlet B r) (b : Box) → Some (seen_of o) ≡ Some b → handed_in r o.inner ≡ after b
  handed_after o b e =
      let same : seen_of o ≡ b = cc in
      (λ i. record { calls = o.counted i; latest = o.lasted i }) ∙ ap after same

  -- the boxes of slots that all have one
  module _ (Is : ℕ → Box → Type 0) where
    pub record AreSeen (from : ℕ) (xs : List (Option (Outlet B r))) : Type 0 where
      pub is : (j : ℕ) (x : Option (Outlet B r)) → get_elem? xs j ≡ some x → (b : Box) × (seen_in x ≡ Some b) × Is (from + j) b

    rest_seen : (from : ℕ) (x : Option (Outlet B r)) (xs : List (Option (Outlet B r))) → AreSeen from (x ∷ xs) → AreSeen (suc from) xs
    rest_seen from x xs h = record { is = λ j y e. let q = h.is (suc j) y e in (q.0, q.1, subst (λ (k : ℕ). Is k q.0) (omega arith) q.2) }

    pub boxes_in-length : (from : ℕ) (xs : List (Option (Outlet B r))) → AreSeen from xs → length (boxes_in xs) ≡ length xs
    boxes_in-length from [] h = refl
    boxes_in-length from (None ∷ xs) h = let q = h.is 0 None refl in no_box q.0 q.1
    boxes_in-length from (Some o ∷ xs) h = omega (arith, boxes_in-length (suc from) xs (rest_seen from (Some o) xs h))

    pub boxes_in-at : (from : ℕ) (xs : List (Option (Outlet B r))) → AreSeen from xs → (j : ℕ) → j < length xs → (b : Box) × (box_at (map (handed_in r) (boxes_in xs)) j ≡ after b) × Is (from + j) b
    boxes_in-at from [] h j l = absurd (omega (arith, l))
    boxes_in-at from (None ∷ xs) h j l = let q = h.is 0 None refl in no_box q.0 q.1
    boxes_in-at from (Some o ∷ xs) h zero l = let q = h.is 0 (Some o) refl in (q.0, handed_after o q.0 q.1, q.2)
    boxes_in-at from (Some o ∷ xs) h (suc j) l =
        let q = boxes_in-at (suc from) xs (rest_seen from (Some o) xs h) j (omega (arith, l)) in
        (q.0, q.1, subst (λ (k : ℕ). Is k q.0) (omega arith) q.2)

-- the box at a place as it was handed in, and after one release
abbrev pub fresh_at : List Handed → ℕ → Box
fresh_at boxes j = record { handed = box_at boxes j; length = None }

abbrev pub called_at : List Handed → ℕ → ℕ → Box
called_at boxes j l = record { handed = box_at boxes j; length = Some l }

pub record IsOf (boxes : List Handed) (v : View) (Free : Type 0) (j : ℕ) (b : Box) : Type 0 where
  pub value : (b ≡ fresh_at boxes j) ⊎ ((u : Use) × Member u v.used × (u.slot ≡ j) × (b ≡ called_at boxes j u.length))
  pub called : Free → (u : Use) → Member u v.used → u.slot ≡ j → b ≡ called_at boxes j u.length

some_same : (a b : Box) → Some a ≡ Some b → a ≡ b
some_same a b e = cc

module _ {B : Type 0} {r : Ghosts B} (p : Terms (Option (Outlet B r))) (id : ℕ) (v : View) (ws : List ℕ) (xs : List (Option (Outlet B r))) (f : Final (Seen (Kept p) id v) ws xs) (seen : (x : Option (Outlet B r)) → p.seen x ≡ seen_in x) (all : v.spare ≡ p.workers) (home : v.away ≡ []) (count : length p.boxes ≡ length xs) where
  abbrev pub back : List Handed
  back = map (handed_in r) (boxes_in xs)

  slot_at : (j : ℕ) → j < length xs → (y : Option (Outlet B r)) × (get_elem? xs j ≡ some y) × IsSettled p f.0.words v j y
  slot_at j l = let q = settled p f.0 id v f.1.0 f.1.1 all home j (omega (arith, l, f.3)) in (q.0, f.4 j q.0 q.1, q.2)

  abbrev Free : Type 0
  Free = (n : ℕ) → n < p.numbers → get_or ws n 0 ≡ 0

  abbrev IsMine : ℕ → Box → Type 0
  IsMine = IsOf p.boxes v Free

  box_seen : (j : ℕ) (y : Option (Outlet B r)) → IsSettled p f.0.words v j y → (b : Box) × (seen_in y ≡ Some b) × IsMine j b
  box_seen j y s =
      let called : (b : Box) → seen_in y ≡ Some b → Free → (u : Use) → Member u v.used → u.slot ≡ j → b ≡ called_at p.boxes j u.length =
      (λ b e free u m is. some_same b (called_at p.boxes j u.length) (sym e ∙ (sym (seen y) ∙ s.called (λ n low. ap (λ (z : List ℕ). get_or z n 0) f.2 ∙ free n low) u m is))) in
      ⊎_elim
      (λ fresh. let e = sym (seen y) ∙ fresh in (fresh_at p.boxes j, e, record { value = inl refl; called = called (fresh_at p.boxes j) e }))
      (λ u. let e = sym (seen y) ∙ u.3 in (called_at p.boxes j u.0.length, e, record { value = inr (u.0, u.1, u.2, refl); called = called (called_at p.boxes j u.0.length) e }))
      s.value

  boxes_seen : AreSeen IsMine 0 xs
  boxes_seen = record {
    is = λ j x e.
        let q = slot_at j (at_lt xs j x e) in
        let same : q.0 ≡ x = some-injective q.0 x (sym q.1 ∙ e) in
        let b = box_seen j x (subst (IsSettled p f.0.words v j) same q.2) in
        let start : j ≡ 0 + j = omega arith in
        (b.0, b.1, subst (λ (k : ℕ). IsMine k b.0) start b.2);
  }

  box_is : (j : ℕ) → j < length p.boxes → (b : Box) × (box_at back j ≡ after b) × IsMine j b
  box_is j l =
      let b = boxes_in-at IsMine 0 xs boxes_seen j (omega (arith, l, count)) in
      let start : 0 + j ≡ j = omega arith in
      (b.0, b.1, subst (λ (k : ℕ). IsMine k b.0) start b.2)

  one_used : (u : Use) → IsUsed (v ∷ []) u → Member u v.used
  one_used u h = ⊎_elim (λ e. subst (λ (z : View). Member u z.used) e h.2) (λ z. absurd z) h.1

  place_in : (u : Use) → Member u v.used → u.slot < length p.boxes
  place_in u m = omega (arith, used_inside p f.0 id v f.1.0 f.1.1 all home u m, f.3, count)

  used_box : (u : Use) → Member u v.used → (box_at back u.slot ≡ box_at p.boxes u.slot) ⊎ (box_at back u.slot ≡ released u.length (box_at p.boxes u.slot))
  used_box u m =
      let l = place_in u m in
      let q = box_is u.slot l in
      let s = slot_at u.slot (omega (arith, l, count)) in
      ⊎_elim
      (λ fresh. inl (q.1 ∙ ap after fresh))
      (λ w. inr (q.1 ∙ (ap after w.3 ∙ ap (λ (z : Use). released z.length (box_at p.boxes u.slot)) (s.2.once w.0 u w.1 m w.2 refl))))
      q.2.value

  called_box : Free → (u : Use) → Member u v.used → box_at back u.slot ≡ released u.length (box_at p.boxes u.slot)
  called_box free u m = let q = box_is u.slot (place_in u m) in q.1 ∙ ap after (q.2.called free u m refl)

  pub returned : (n : ℕ) → (n ≡ 0 → (k : ℕ) → k < p.numbers → get_or ws k 0 ≡ 0) → AreReturned p.boxes (v ∷ []) n back
  returned n free = record {
    count = omega (arith, count, boxes_in-length IsMine 0 xs boxes_seen, length-map (boxes_in xs) (handed_in r));
    unused = λ j l none_. let q = box_is j l in q.1 ∙ ⊎_elim (λ e. ap after e) (λ u. absurd (none_ u.0 (v, inl refl, u.1) u.2)) q.2.value;
    places = λ u h. place_in u (one_used u h);
    used = λ u h. used_box u (one_used u h);
    called = λ none_ u h. called_box (free none_) u (one_used u h);
  }

-- where no external used a slot, each box is as it was handed in
same_at : (a b : List Handed) → length a ≡ length b → ((j : ℕ) → j < length b → box_at a j ≡ box_at b j) → a ≡ b
same_at [] [] n h = refl
same_at [] (y ∷ ys) n h = absurd (omega (arith, n))
same_at (x ∷ xs) [] n h = absurd (omega (arith, n))
same_at (x ∷ xs) (y ∷ ys) n h = (λ i. h 0 (omega arith) i ∷ same_at xs ys (omega (arith, n)) (λ j l. h (suc j) (omega (arith, l))) i)

pub untouched : (boxes : List Handed) (v : View) (n : ℕ) (back : List Handed) → v.used ≡ [] → AreReturned boxes (v ∷ []) n back → back ≡ boxes
untouched boxes v n back none_ a = same_at back boxes a.count (λ j l. a.unused j l (λ u h. ⊎_elim (λ e. absurd (subst (λ (z : List Use). Member u z) (ap (λ (w : View). w.used) e ∙ none_) h.2)) (λ z. absurd z) h.1))

-- where no number is in use, nothing is held
nothing_occurs : (hs : List Node) → ((x : Node) → Occurs x hs → ⊥) → hs ≡ []
nothing_occurs [] h = refl
nothing_occurs (x ∷ xs) h = absurd (h x (root_occurs x (x ∷ xs) (inl refl)))

pub nothing_held : {S : Type 0} (p : Terms S) (id : ℕ) (v : View) (ws : List ℕ) (xs : List S) → Final (Seen (Kept p) id v) ws xs → ((n : ℕ) → n < p.numbers → get_or ws n 0 ≡ 0) → v.holds ≡ []
nothing_held p id v ws xs f free =
    nothing_occurs v.holds (λ x o. in_use p f.0 id v f.1.0 f.1.1 x o
    (ap (λ (z : List ℕ). get_or z (number x) 0) f.2 ∙ free (number x) (low p.numbers f.0 id v f.1.0.counted f.1.1 x o)))
