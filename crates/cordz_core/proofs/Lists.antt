-- The linked slots as a list: what stands before and behind a slot, when one joins or leaves.
use Rattle.std.proofs.Common.{◌≡◌, ◌≢◌, ℕ, true, false, List, [], ◌∷◌, Some, None, refl, sym, ap, ◌∙◌, arith}
use Rattle.std.proofs.lemmas.Bool.Decides.{nat_tests}
use Rattle.cordz_core.specs.Queue.{has, Apart}
use Rattle.cordz_core.specs.Legal.{first_of, behind}
use Rattle.cordz_core.proofs.Numbers.{dropped}

pub has_first : (s : ℕ) (xs : List ℕ) → first_of xs ≡ Some s → has s xs ≡ true
has_first s [] e = absurd (cc)
has_first s (x ∷ xs) e = has_first_step s x xs e
  where
    has_first_step : (s x : ℕ) (xs : List ℕ) → Some x ≡ Some s → has s (x ∷ xs) ≡ true
    has_first_step s x xs e = (let same : x ≡ s = cc in grind (arith, nat_tests))

-- the list begins with what is left when its head leaves
pub first_dropped_head : (s : ℕ) (xs : List ℕ) → first_of xs ≡ Some s → first_of (dropped s xs) ≡ behind s xs
first_dropped_head s [] e = refl
first_dropped_head s (x ∷ xs) e = step s x xs e
  where
    step : (s x : ℕ) (xs : List ℕ) → Some x ≡ Some s → first_of (dropped s (x ∷ xs)) ≡ behind s (x ∷ xs)
    step s x xs e = (let same : x ≡ s = cc in grind (arith, nat_tests))

pub first_dropped_other : (s : ℕ) (xs : List ℕ) → first_of xs ≢ Some s → first_of (dropped s xs) ≡ first_of xs
first_dropped_other s [] ne = refl
first_dropped_other s (x ∷ xs) ne = step s x xs (λ e. ne (ap Some (sym e)))
  where
    step : (s x : ℕ) (xs : List ℕ) → s ≢ x → first_of (dropped s (x ∷ xs)) ≡ Some x
    step s x xs ne = grind (arith, nat_tests)

not_first : (s : ℕ) (xs : List ℕ) → has s xs ≡ false → first_of xs ≢ Some s
not_first s xs h e = (let t = has_first s xs e in let f : true ≡ false = sym t ∙ h in cc)

has_behind_step : (s n x : ℕ) (xs : List ℕ) → (first_of xs ≡ Some n → has n xs ≡ true) → (behind s xs ≡ Some n → has n xs ≡ true) → behind s (x ∷ xs) ≡ Some n → has n xs ≡ true
has_behind_step s n x xs f g e = grind (arith, nat_tests)

has_later : (s n : ℕ) (x : ℕ) (xs : List ℕ) → behind s (x ∷ xs) ≡ Some n → has n xs ≡ true
has_later s n x [] e = has_behind_step s n x [] (has_first n []) (λ e. absurd (cc)) e
has_later s n x (y ∷ ys) e = has_behind_step s n x (y ∷ ys) (has_first n (y ∷ ys)) (λ e. weaker (has_later s n y ys e)) e
  where
    weaker : has n ys ≡ true → has n (y ∷ ys) ≡ true
    weaker h = grind (arith, nat_tests)

pub has_next : (s n : ℕ) (xs : List ℕ) → behind s xs ≡ Some n → has n xs ≡ true
has_next s n [] e = absurd (cc)
has_next s n (x ∷ xs) e = weaker (has_later s n x xs e)
  where
    weaker : has n xs ≡ true → has n (x ∷ xs) ≡ true
    weaker h = grind (arith, nat_tests)

-- what stands behind a number that the list lacks
pub behind_none : (s : ℕ) (xs : List ℕ) → has s xs ≡ false → behind s xs ≡ None
behind_none s [] h = refl
behind_none s (x ∷ xs) h = step s x xs (behind_none s xs) h
  where
    step : (s x : ℕ) (xs : List ℕ) → (has s xs ≡ false → behind s xs ≡ None) → has s (x ∷ xs) ≡ false → behind s (x ∷ xs) ≡ None
    step s x xs ih h = grind (arith, nat_tests)

from_apart : (x : ℕ) (xs : List ℕ) (s : ℕ) → Apart (x ∷ xs) → has s xs ≡ true → s ≢ x
from_apart x xs s a h e = (let f : false ≡ true = sym a.0 ∙ (ap (λ k. has k xs) (sym e) ∙ h) in cc)

-- nothing stands before the first
pub first_has_none : (s x : ℕ) (xs : List ℕ) → Apart xs → first_of xs ≡ Some s → behind x xs ≢ Some s
first_has_none s x [] a f e = absurd (cc)
first_has_none s x (y ∷ ys) a f e = from_apart y ys s a (has_later x s y ys e) (same y s f)
  where
    same : (y s : ℕ) → Some y ≡ Some s → s ≡ y
    same y s f = cc

-- only one number stands before another
pub one_before_step : (s x p y : ℕ) (ys : List ℕ) → (behind p ys ≡ Some s → behind x ys ≡ Some s → p ≡ x) → (first_of ys ≡ Some s → behind x ys ≢ Some s) → (first_of ys ≡ Some s → behind p ys ≢ Some s) → behind p (y ∷ ys) ≡ Some s → behind x (y ∷ ys) ≡ Some s → p ≡ x
one_before_step s x p y ys ih a b e f = grind (arith, nat_tests)

pub one_before : (s x p : ℕ) (xs : List ℕ) → Apart xs → behind p xs ≡ Some s → behind x xs ≡ Some s → p ≡ x
one_before s x p [] a e f = absurd (cc)
one_before s x p (y ∷ ys) a e f = one_before_step s x p y ys (one_before s x p ys a.1) (first_has_none s x ys a.1) (first_has_none s p ys a.1) e f

pub not_behind_itself : (s : ℕ) (xs : List ℕ) → Apart xs → behind s xs ≢ Some s
not_behind_itself s [] a e = absurd (cc)
not_behind_itself s (y ∷ ys) a e = step s y ys (not_behind_itself s ys a.1) (from_apart y ys s a (has_later s s y ys e)) e
  where
    step : (s y : ℕ) (ys : List ℕ) → behind s ys ≢ Some s → s ≢ y → behind s (y ∷ ys) ≡ Some s → ⊥
    step s y ys ih ne e = grind (arith, nat_tests)

-- the one before it stands before what stood behind it
behind_dropped_before_step : (s p y : ℕ) (ys : List ℕ) → s ≢ y → (first_of ys ≡ Some s → first_of (dropped s ys) ≡ behind s ys) → (behind p ys ≡ Some s → behind p (dropped s ys) ≡ behind s ys) → behind p (y ∷ ys) ≡ Some s → behind p (dropped s (y ∷ ys)) ≡ behind s (y ∷ ys)
behind_dropped_before_step s p y ys ne f ih e = grind (arith, nat_tests)

pub behind_dropped_before : (s p : ℕ) (xs : List ℕ) → Apart xs → behind p xs ≡ Some s → behind p (dropped s xs) ≡ behind s xs
behind_dropped_before s p [] a e = absurd (cc)
behind_dropped_before s p (y ∷ ys) a e = behind_dropped_before_step s p y ys (from_apart y ys s a (has_later p s y ys e)) (first_dropped_head s ys) (behind_dropped_before s p ys a.1) e

behind_dropped_other_step : (s q y : ℕ) (ys : List ℕ) → q ≢ s → (first_of ys ≢ Some s → first_of (dropped s ys) ≡ first_of ys) → (behind q ys ≢ Some s → behind q (dropped s ys) ≡ behind q ys) → behind q (y ∷ ys) ≢ Some s → behind q (dropped s (y ∷ ys)) ≡ behind q (y ∷ ys)
behind_dropped_other_step s q y ys ne f ih e = grind (arith, nat_tests)

pub behind_dropped_other : (s q : ℕ) (xs : List ℕ) → q ≢ s → behind q xs ≢ Some s → behind q (dropped s xs) ≡ behind q xs
behind_dropped_other s q [] ne e = refl
behind_dropped_other s q (y ∷ ys) ne e = behind_dropped_other_step s q y ys ne (first_dropped_other s ys) (behind_dropped_other s q ys ne) e
