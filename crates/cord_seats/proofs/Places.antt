-- The slots of each session's worker, by their places.
use Rattle.std.proofs.Common.{◌≡◌, ◌∙◌, sym, ap, refl, subst, ⊎_elim, arith}
use Rattle.std.proofs.Common.{ℕ, zero, suc, ◌+◌, ◌-◌, ◌*◌, ◌<◌, List, [], ◌∷◌, ◌++◌, length, map, drop, get_or, length-append, length-take}
use Rattle.std.specs.Prelude.{min}
use Rattle.std.proofs.lemmas.List.{get_or-drop, get_or-take, get_or-map, length-drop, length-map, get_or_append_left}
use Rattle.pool_rule.specs.Notes.{Use}
use Rattle.pool_rule.specs.Views.{View}
use Rattle.node_pool.specs.Boxes as numbers
use Rattle.node_pool.specs.Starts.{slot_count, worker_at, rest_after, new_workers}
use Rattle.cord_runs.specs.Scripts.{boxes_of}
use Rattle.cord_commands.specs.Accounts.{IsSteady}
use Rattle.cord_commands.specs.Slots.{slots_in}
use Rattle.cord_seats.specs.Chairs.{own_slots, IsNew}
use Rattle.cord_seats.proofs.Lists.{get_snoc}

-- ---- the numbers below a bound, in order
pub count-below : (n : ℕ) → length (numbers.below n) ≡ n
count-below zero = refl
count-below (suc n) = let i = count-below n in let a = length-append (numbers.below n) (n ∷ []) in omega arith

pub below-at : (n j d : ℕ) → j < n → get_or (numbers.below n) j d ≡ j
below-at zero j d low = absurd (omega arith)
below-at (suc n) j d low = ⊎_elim
    (λ (t : (j < n) × (get_or (numbers.below n ++ n ∷ []) j d ≡ get_or (numbers.below n) j d)). t.1 ∙ below-at n j d t.0)
    (λ (t : (j ≡ n) × (get_or (numbers.below n ++ n ∷ []) j d ≡ n)). t.1 ∙ sym t.0)
    (get_snoc (numbers.below n) n d j n (count-below n) (omega arith))

-- ---- those of one session
pub own-count : (slots p : ℕ) → length (own_slots slots p) ≡ min 16 (slots - p * 16)
own-count slots p = length-take 16 (drop (p * 16) (numbers.below slots)) ∙ ap (min 16) (length-drop (p * 16) (numbers.below slots) ∙ ap (λ (n : ℕ). n - p * 16) (count-below slots))

-- as many as the session owns boxes
pub own-boxes : (workers boxes n p : ℕ) → workers ≡ n + 1 → p < n → length (own_slots (slot_count workers boxes) p) ≡ boxes_of boxes p
own-boxes workers boxes n p more low = let c = own-count (slot_count workers boxes) p in omega arith

pub own-at : (slots p k d : ℕ) → k < length (own_slots slots p) → (get_or (own_slots slots p) k d ≡ p * 16 + k) × (k < 16)
own-at slots p k d inside =
    let c = own-count slots p in
    let short : k < 16 = omega arith in
    let low : p * 16 + k < slots = omega arith in
    (get_or-take 16 (drop (p * 16) (numbers.below slots)) k d short ∙ (get_or-drop (p * 16) (numbers.below slots) k d ∙ below-at slots (p * 16 + k) d low), short)

-- ---- new workers
snoc-same : {A : Type 0} (xs ys : List A) (x y : A) → xs ++ x ∷ [] ≡ ys ++ y ∷ [] → (xs ≡ ys) × (x ≡ y)
snoc-same [] [] x y e = (refl, cc)
snoc-same [] (z ∷ ys) x y e = let n = ap length e in let a = length-append ys (y ∷ []) in absurd (omega arith)
snoc-same (z ∷ xs) [] x y e = let n = ap length e in let a = length-append xs (x ∷ []) in absurd (omega arith)
snoc-same (w ∷ xs) (z ∷ ys) x y e =
    let first : w ≡ z = cc in
    let more = snoc-same xs ys x y cc in
    ((λ i. first i ∷ more.0 i), more.1)

-- the workers without the last, which was popped
pub popped-are : (size limit workers n slots : ℕ) (all ws : List View) (own : View) → all ≡ new_workers size limit workers slots → all ≡ ws ++ own ∷ [] → workers ≡ n + 1
    → ws ++ own ∷ [] ≡ new_workers size limit (n + 1) slots
popped-are size limit workers n slots all ws own whole popped more = subst (λ (z : ℕ). ws ++ own ∷ [] ≡ new_workers size limit z slots) more (sym popped ∙ whole)

module _ (size limit n slots : ℕ) (ws : List View) (own : View) (are : ws ++ own ∷ [] ≡ new_workers size limit (n + 1) slots) where
  one-less : n + 1 - 1 ≡ n
  one-less = omega arith

  parts : (ws ≡ map (worker_at size limit slots) (numbers.below n)) × (own ≡ rest_after size limit (n + 1) slots n)
  parts = snoc-same ws (map (worker_at size limit slots) (numbers.below n)) own (rest_after size limit (n + 1) slots n)
      (subst (λ (m : ℕ). ws ++ own ∷ [] ≡ map (worker_at size limit slots) (numbers.below m) ++ rest_after size limit (n + 1) slots m ∷ []) one-less are)

  pub new-length : length ws ≡ n
  new-length = ap length parts.0 ∙ (length-map (numbers.below n) (worker_at size limit slots) ∙ count-below n)

  -- the first of them are those of the sessions
  pub new-at : (p : ℕ) (w : View) → p < n → IsNew slots p (get_or ws p w)
  new-at p w low = subst (IsNew slots p) (sym here) (record { holds = refl; made = refl; ended = refl; taken = refl; full = refl; counts = refl; used = refl; unused = refl })
    where
      here : get_or ws p w ≡ worker_at size limit slots p
      here = ap (λ (z : List View). get_or z p w) parts.0
          ∙ (get_or-map (worker_at size limit slots) (numbers.below n) p 0 w (subst (λ (z : ℕ). p < z) (sym (count-below n)) low) ∙ ap (worker_at size limit slots) (below-at n p 0 low))

  -- and the last did nothing either
  pub own-new : (length own.holds ≡ 0) × (own.made ≡ 0) × (own.ended ≡ 0) × (own.used ≡ [])
  own-new = subst (λ (z : View). (length z.holds ≡ 0) × (z.made ≡ 0) × (z.ended ≡ 0) × (z.used ≡ [])) (sym parts.1) (refl, refl, refl, refl)

-- ---- used slots
-- a worker that stays steady uses none
pub steady-used : (v w : View) (a b : ℕ) → IsSteady v w a b → v.used ≡ [] → w.used ≡ []
steady-used v w a b s none = ap (λ (z : View). z.used) s.grew.is ∙ λ i. none i ++ s.idle i

-- the slot of an external is that of its place
pub used-at : (slots p : ℕ) (w : View) → slots_in w ≡ own_slots slots p → (k : ℕ) (d : Use) → k < length w.used → ((get_or w.used k d).slot ≡ p * 16 + k) × (k < 16)
used-at slots p w is k d inside =
    let slot : Use → ℕ = λ u. u.slot in
    let mapped = length-map w.used slot in
    let whole = length-append (map slot w.used) w.unused in
    let same = ap length is in
    let at = own-at slots p k 0 (omega arith) in
    (sym (get_or-map slot w.used k d 0 inside) ∙ (sym (get_or_append_left (map slot w.used) w.unused 0 k (omega arith)) ∙ (ap (λ (z : List ℕ). get_or z k 0) is ∙ at.0)), at.1)
