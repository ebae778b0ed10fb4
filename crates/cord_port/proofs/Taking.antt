-- Beginnings and rests of lists.
use Rattle.std.proofs.Common.{◌≡◌, ◌+◌, ◌-◌, ◌≤◌, ℕ, zero, suc, List, [], ◌∷◌, ◌++◌, take, drop, length, refl, ap, ◌∙◌, arith}

pub all_taken : (xs : List ℕ) (n : ℕ) → length xs ≤ n → take n xs ≡ xs
all_taken [] zero h = refl
all_taken [] (suc n) h = refl
all_taken (x ∷ xs) zero h = absurd (omega arith)
all_taken (x ∷ xs) (suc n) h = ap (λ l. x ∷ l) (all_taken xs n (omega arith))

pub length_dropped : (xs : List ℕ) (at : ℕ) → length (drop at xs) ≡ length xs - at
length_dropped xs zero = omega arith
length_dropped [] (suc at) = omega arith
length_dropped (x ∷ xs) (suc at) = let h = length_dropped xs at in omega arith

no_take : (k : ℕ) → ◌≡◌ {A = List ℕ} [] (take k [])
no_take zero = refl
no_take (suc k) = refl

next_suc : (at n : ℕ) → suc (at + n) ≡ suc at + n
next_suc at n = omega arith

pub taken_then : (xs : List ℕ) (at n : ℕ) → take at xs ++ take n (drop at xs) ≡ take (at + n) xs
taken_then xs zero n = ap (λ (z : ℕ). take z xs) (omega arith)
taken_then [] (suc at) zero = no_take (suc at + 0)
taken_then [] (suc at) (suc n) = no_take (suc at + suc n)
taken_then (x ∷ xs) (suc at) n = ap (λ l. x ∷ l) (taken_then xs at n) ∙ ap (λ (z : ℕ). take z (x ∷ xs)) (next_suc at n)

-- what was written of a text, and what a write of its rest took
pub seam : (text : List ℕ) (at n : ℕ) → take at text ++ take n (take (length text - at) (drop at text)) ≡ take (at + n) text
seam text at n = let long = length_dropped text at in ap (λ z. take at text ++ take n z) (all_taken (drop at text) (length text - at) (omega arith)) ∙ taken_then text at n
