-- The releaser slots of a worker, when it is made and after its steps.
use Rattle.std.proofs.Common.{◌≡◌, ℕ, zero, suc, ◌+◌, ◌*◌, ◌<◌, ◌≤◌, Bool, true, false, eqb, List, [], ◌∷◌, ◌++◌, length, get_or, take, drop, min, refl, sym, ap, subst, ◌∙◌, arith, length-append}
use Rattle.std.proofs.lemmas.List.{take_all, take-append-le, drop-take, drop-drop, drop_all, drop_more, get_or_append_left, get_or_at}
use Rattle.std.specs.Prelude.{if◌then◌else◌}
use mathlib.Core.Logic.{dite}
use native.Mathlib.Decide.{dec_lt, dec_le}
use Rattle.node_forest.specs.declared.kind.Kind.{Kind}
use Rattle.node_forest.specs.declared.kind.Kind.TheVariants.{Flat, External, Part, Sum, Branch}
use Rattle.node_forest.specs.Label.{Node, number}
use Rattle.pool_rule.specs.Notes.{unused_after, uses_of}
use Rattle.pool_rule.specs.Views.{View, taking, looking}
use Rattle.node_pool.specs.Boxes.{below}
use Rattle.node_pool.specs.Starts.{rest_after, worker_at}
use Rattle.node_pool.specs.Tokens.{only, HasSlots}
use Rattle.node_pool.specs.declared.slots.Slots.{Slots}

-- ---- the numbers below one
length-below : (n : ℕ) → length (below n) ≡ n
length-below zero = refl
length-below (suc n) = omega (arith, length-append (below n) (n ∷ []), length-below n)

below_at : (n i : ℕ) → i < n → get_or (below n) i 0 ≡ i
below_at zero i l = absurd (omega arith)
below_at (suc n) i l =
    dite (dec_lt i n)
    (λ less. get_or_append_left (below n) (n ∷ []) 0 i (omega (arith, length-below n)) ∙ below_at n i less)
    (λ last. let same : n ≡ i = omega arith in get_or_at (below n) n [] 0 i (length-below n ∙ same) ∙ same)

below_from : (i n : ℕ) → i < n → drop i (below n) ≡ i ∷ drop (i + 1) (below n)
below_from i n l = drop_more (below n) i 0 (omega (arith, length-below n)) ∙ ap (λ (k : ℕ). k ∷ drop (i + 1) (below n)) (below_at n i l)

below_past : (i n : ℕ) → n ≤ i → drop i (below n) ≡ []
below_past i n l = drop_all i (below n) (omega (arith, length-below n))

take_below : (m n : ℕ) → take m (below n) ≡ below (min m n)
take_below m zero = take_all m (below zero) (omega arith) ∙ ap below (let e : 0 ≡ min m 0 = omega arith in e)
take_below m (suc n) =
    dite (dec_le m n)
    (λ low. take-append-le m (below n) (n ∷ []) (omega (arith, length-below n)) ∙ (take_below m n ∙ ap below (let e : min m n ≡ min m (suc n) = omega arith in e)))
    (λ high. take_all m (below (suc n)) (omega (arith, length-below (suc n))) ∙ ap below (let e : suc n ≡ min m (suc n) = omega arith in e))

-- the same, from where it begins or from its end
from_least : (i n : ℕ) → drop i (below n) ≡ drop (min i n) (below n)
from_least i n =
    dite (dec_le i n)
    (λ low. ap (λ (k : ℕ). drop k (below n)) (let e : i ≡ min i n = omega arith in e))
    (λ high. below_past i n (omega arith) ∙ sym (below_past (min i n) n (omega arith)))

-- so many of the numbers below n, from i on
part_below : (i k n : ℕ) → take k (drop i (below n)) ≡ drop (min i n) (below (min (i + k) n))
part_below i k n =
    sym (drop-take i k (below n)) ∙ (ap (drop i) (take_below (i + k) n) ∙ (from_least i (min (i + k) n) ∙ ap (λ (j : ℕ). drop j (below (min (i + k) n))) (let e : min i (min (i + k) n) ≡ min i n = omega arith in e)))

-- ---- a new worker
pub hired_slots : (numbers most slots i : ℕ) (s : Slots) (views : List View) → s.first ≡ min (i * 16) slots → s.next ≡ s.first → s.end ≡ min (i * 16 + 16) slots → only views ≡ worker_at numbers most slots i → HasSlots s (only views)
hired_slots numbers most slots i s views first next end is =
    subst (HasSlots s) (sym is) (record {
      used = omega (arith, next);
      unused = part_below (i * 16) 16 slots ∙ (λ q. drop (sym (next ∙ first) q) (below (sym end q)));
    })

pub last_slots : (numbers most workers slots i : ℕ) (s : Slots) (views : List View) → slots ≤ i * 16 + 16 → s.first ≡ min (i * 16) slots → s.next ≡ s.first → s.end ≡ min (i * 16 + 16) slots → only views ≡ rest_after numbers most workers slots i → HasSlots s (only views)
last_slots numbers most workers slots i s views few first next end is =
    let all : slots ≡ s.end = omega (arith, few, end) in
    subst (HasSlots s) (sym is) (record {
      used = omega (arith, next);
      unused = from_least (i * 16) slots ∙ (λ q. drop (sym (next ∙ first) q) (below (all q)));
    })

-- ---- a worker after a step
-- no slot was used
pub slots_stay : (s : Slots) (after : List View) (x v w : View) → HasSlots s x → x ≡ v → after ≡ w ∷ [] → w.used ≡ v.used → w.unused ≡ v.unused → HasSlots s (only after)
slots_stay s after x v w h was is used unused =
    let old : HasSlots s v = subst (HasSlots s) was h in
    subst (HasSlots s) (sym (ap only is)) (record { used = old.used ∙ ap (λ (us : List _). s.first + length us) (sym used); unused = unused ∙ old.unused })

-- a word was read
pub slots_looked : (s : Slots) (after : List View) (n : ℕ) (t : Node) (x v : View) → HasSlots s x → x ≡ v → after ≡ looking n t v ∷ [] → HasSlots s (only after)
slots_looked s after n t x v h was is =
    subst (HasSlots s) (sym (ap only is)) (go (eqb n 1) (subst (HasSlots s) was h))
  where
    go : (b : Bool) → HasSlots s v → HasSlots s (if b then record v { lone = v.lone ++ number t ∷ [] } else record v { looks = v.looks ++ record { number = number t; found = n; shares = v.shares } ∷ [] })
    go true h = record { used = h.used; unused = h.unused }
    go false h = record { used = h.used; unused = h.unused }

-- a node was taken
unused_from : (k : Kind) (t : Node) (next end : ℕ) (unused : List ℕ) → unused ≡ drop next (below end) → unused_after k unused ≡ drop (next + length (uses_of k t)) (below end)
unused_from External t next end unused is = ap (drop 1) is ∙ drop-drop 1 next (below end)
unused_from Flat t next end unused is = is ∙ ap (λ (j : ℕ). drop j (below end)) (let e : next ≡ next + 0 = omega arith in e)
unused_from Part t next end unused is = is ∙ ap (λ (j : ℕ). drop j (below end)) (let e : next ≡ next + 0 = omega arith in e)
unused_from Sum t next end unused is = is ∙ ap (λ (j : ℕ). drop j (below end)) (let e : next ≡ next + 0 = omega arith in e)
unused_from Branch t next end unused is = is ∙ ap (λ (j : ℕ). drop j (below end)) (let e : next ≡ next + 0 = omega arith in e)

pub slots_taken : (s z : Slots) (t : Node) (v : View) → HasSlots s v → z.first ≡ s.first → z.next ≡ s.next + length (uses_of t.0.kind t) → z.end ≡ s.end → HasSlots z (taking t v)
slots_taken s z t v h first next end = record {
  used = omega (arith, first, next, h.used, length-append v.used (uses_of t.0.kind t));
  unused = unused_from t.0.kind t s.next s.end v.unused h.unused ∙ (λ q. drop (sym next q) (below (sym end q)));
}

-- ---- what is unused
pub next_is : (s : Slots) (v : View) → HasSlots s v → s.next < s.end → (later : List ℕ) × (v.unused ≡ s.next ∷ later)
next_is s v h less = (drop (s.next + 1) (below s.end), h.unused ∙ below_from s.next s.end less)

pub none_is : (s : Slots) (v : View) → HasSlots s v → s.end ≤ s.next → v.unused ≡ []
none_is s v h all = h.unused ∙ below_past s.next s.end all

pub some_left : (s : Slots) (v : View) (j : ℕ) (later : List ℕ) → HasSlots s v → v.unused ≡ j ∷ later → s.next < s.end
some_left s v j later h is = dite (dec_lt s.next s.end) (λ less. less) (λ more. let none : v.unused ≡ [] = none_is s v h (omega (arith, more)) in absurd (cc (none, is)))
