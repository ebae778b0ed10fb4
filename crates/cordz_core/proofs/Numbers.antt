-- Lists of numbers of which none stands twice: how long they can be, and what leaves them.
use Rattle.std.proofs.Common.{◌≡◌, ◌≢◌, ℕ, zero, suc, ◌<◌, ◌≤◌, Bool, true, false, cond, List, [], ◌∷◌, ◌++◌, length, refl, ap, ◌∙◌, arith, length-append}
use Rattle.std.specs.Prelude.{◌==◌, ◌||◌}
use Rattle.std.proofs.lemmas.Bool.Decides.{nat_tests}
use Rattle.cordz_core.specs.Queue.{has, Apart}

-- each number of the list is below this one
abbrev pub AllBelow : ℕ → List ℕ → Type 0
AllBelow n [] = Unit {0}
AllBelow n (x ∷ xs) = (x < n) × AllBelow n xs

-- the list without the first such number
abbrev pub dropped : ℕ → List ℕ → List ℕ
dropped n [] = []
dropped n (x ∷ xs) = cond (n == x) xs (x ∷ dropped n xs)

dropped_length_step : (n x : ℕ) (xs : List ℕ) → length xs ≤ suc (length (dropped n xs)) → length (x ∷ xs) ≤ suc (length (dropped n (x ∷ xs)))
dropped_length_step n x xs ih = grind (arith, nat_tests)

dropped_length : (n : ℕ) (xs : List ℕ) → length xs ≤ suc (length (dropped n xs))
dropped_length n [] = omega arith
dropped_length n (x ∷ xs) = dropped_length_step n x xs (dropped_length n xs)

has_dropped_step : (n y x : ℕ) (xs : List ℕ) → (has y xs ≡ false → has y (dropped n xs) ≡ false) → has y (x ∷ xs) ≡ false → has y (dropped n (x ∷ xs)) ≡ false
has_dropped_step n y x xs ih h = grind (arith, nat_tests)

pub has_dropped : (n y : ℕ) (xs : List ℕ) → has y xs ≡ false → has y (dropped n xs) ≡ false
has_dropped n y [] h = refl
has_dropped n y (x ∷ xs) h = has_dropped_step n y x xs (has_dropped n y xs) h

dropped_apart_step : (n x : ℕ) (xs : List ℕ) → Apart (dropped n xs) → has x (dropped n xs) ≡ false → Apart (x ∷ xs) → Apart (dropped n (x ∷ xs))
dropped_apart_step n x xs ih fresh h = either (n == x) ih
  where
    either : (b : Bool) → Apart (dropped n xs) → Apart (cond b xs (x ∷ dropped n xs))
    either true ih = h.1
    either false ih = (fresh, ih)

pub dropped_apart : (n : ℕ) (xs : List ℕ) → Apart xs → Apart (dropped n xs)
dropped_apart n [] h = tt
dropped_apart n (x ∷ xs) h = dropped_apart_step n x xs (dropped_apart n xs h.1) (has_dropped n x xs h.0) h

below_smaller_step : (n x : ℕ) → x < suc n → (n == x) ≡ false → x < n
below_smaller_step n x h e = grind (arith, nat_tests)

all_smaller : (n : ℕ) (xs : List ℕ) → has n xs ≡ false → AllBelow (suc n) xs → AllBelow n xs
all_smaller n [] e h = tt
all_smaller n (x ∷ xs) e h = (below_smaller_step n x h.0 (first (n == x) (has n xs) e), all_smaller n xs (second (n == x) (has n xs) e) h.1)
  where
    first : (a b : Bool) → (a || b) ≡ false → a ≡ false
    first true b e = e
    first false b e = refl

    second : (a b : Bool) → (a || b) ≡ false → b ≡ false
    second true true e = e
    second true false e = refl
    second false b e = e

smaller_dropped_step : (n x : ℕ) (xs : List ℕ) → AllBelow n (dropped n xs) → (b : Bool) → (n == x) ≡ b → Apart (x ∷ xs) → AllBelow (suc n) (x ∷ xs) → AllBelow n (cond b xs (x ∷ dropped n xs))
smaller_dropped_step n x xs ih true e a h = all_smaller n xs (let same : n ≡ x = grind (arith, nat_tests) in ap (λ k. has k xs) same ∙ a.0) h.1
smaller_dropped_step n x xs ih false e a h = (below_smaller_step n x h.0 e, ih)

smaller_dropped : (n : ℕ) (xs : List ℕ) → Apart xs → AllBelow (suc n) xs → AllBelow n (dropped n xs)
smaller_dropped n [] a h = tt
smaller_dropped n (x ∷ xs) a h = smaller_dropped_step n x xs (smaller_dropped n xs a.1 h.1) (n == x) refl a h

-- there are at most n such numbers below n
pub few : (n : ℕ) (xs : List ℕ) → Apart xs → AllBelow n xs → length xs ≤ n
few zero [] a h = omega arith
few zero (x ∷ xs) a h = absurd (omega (arith, h.0))
few (suc n) xs a h = let ih = few n (dropped n xs) (dropped_apart n xs a) (smaller_dropped n xs a h) in let l = dropped_length n xs in omega arith

has_push_step : (y z x : ℕ) (xs : List ℕ) → (has y xs ≡ false → y ≢ z → has y (xs ++ z ∷ []) ≡ false) → has y (x ∷ xs) ≡ false → y ≢ z → has y ((x ∷ xs) ++ z ∷ []) ≡ false
has_push_step y z x xs ih h ne = grind (arith, nat_tests)

pub has_push : (y z : ℕ) (xs : List ℕ) → has y xs ≡ false → y ≢ z → has y (xs ++ z ∷ []) ≡ false
has_push y z [] h ne = grind (arith, nat_tests)
has_push y z (x ∷ xs) h ne = has_push_step y z x xs (has_push y z xs) h ne

apart_head : (z x : ℕ) (xs : List ℕ) → has z (x ∷ xs) ≡ false → (x ≢ z) × (has z xs ≡ false)
apart_head z x xs h = (grind (arith, nat_tests), grind (arith, nat_tests))

pub apart_push : (z : ℕ) (xs : List ℕ) → Apart xs → has z xs ≡ false → Apart (xs ++ z ∷ [])
apart_push z [] a h = (refl, tt)
apart_push z (x ∷ xs) a h = let t = apart_head z x xs h in (has_push x z xs a.0 t.0, apart_push z xs a.1 t.1)

pub below_push : (n z : ℕ) (xs : List ℕ) → AllBelow n xs → z < n → AllBelow n (xs ++ z ∷ [])
below_push n z [] a h = (h, tt)
below_push n z (x ∷ xs) a h = (a.0, below_push n z xs a.1 h)

-- one more number fits, so there is room
pub room : (n z : ℕ) (xs : List ℕ) → Apart xs → AllBelow n xs → has z xs ≡ false → z < n → length xs < n
room n z xs a h fresh less = let l = few n (xs ++ z ∷ []) (apart_push z xs a fresh) (below_push n z xs h less) in let e = length-append xs (z ∷ []) in omega arith

pub has_push_true : (y z : ℕ) (xs : List ℕ) → has y xs ≡ true → has y (xs ++ z ∷ []) ≡ true
has_push_true y z [] h = absurd (cc)
has_push_true y z (x ∷ xs) h = has_push_true_step y z x xs (has_push_true y z xs) h
  where
    has_push_true_step : (y z x : ℕ) (xs : List ℕ) → (has y xs ≡ true → has y (xs ++ z ∷ []) ≡ true) → has y (x ∷ xs) ≡ true → has y ((x ∷ xs) ++ z ∷ []) ≡ true
    has_push_true_step y z x xs ih h = grind (arith, nat_tests)

has_push_same_step : (z x : ℕ) (xs : List ℕ) → has z (xs ++ z ∷ []) ≡ true → has z ((x ∷ xs) ++ z ∷ []) ≡ true
has_push_same_step z x xs ih = grind (arith, nat_tests)

pub has_push_same : (z : ℕ) (xs : List ℕ) → has z (xs ++ z ∷ []) ≡ true
has_push_same z [] = grind (arith, nat_tests)
has_push_same z (x ∷ xs) = has_push_same_step z x xs (has_push_same z xs)

has_other_step : (y n x : ℕ) (xs : List ℕ) → y ≢ n → has y (dropped n xs) ≡ has y xs → has y (dropped n (x ∷ xs)) ≡ has y (x ∷ xs)
has_other_step y n x xs ne ih = grind (arith, nat_tests)

pub has_other : (y n : ℕ) (xs : List ℕ) → y ≢ n → has y (dropped n xs) ≡ has y xs
has_other y n [] ne = refl
has_other y n (x ∷ xs) ne = has_other_step y n x xs ne (has_other y n xs ne)
