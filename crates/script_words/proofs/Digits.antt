-- Digits that are read one after the other.
use Rattle.std.proofs.Common.{◌≡◌, ℕ, suc, ◌+◌, ◌-◌, ◌*◌, ◌^◌, ◌<◌, ◌≤◌, true, false, cond, List, [], ◌∷◌, length, get_or, drop, drop-cons, None, refl, arith}
use Rattle.std.proofs.lemmas.Bool.{le-ltb}
use Rattle.std.proofs.lemmas.Bool.Decides.{nat_tests}
use Rattle.script_words.specs.Words.{is_digit}
use Rattle.script_words.specs.Numbers.{digits_from, small}

-- more digits make no smaller number
pub too_large : (n : ℕ) (cs : List ℕ) → 2 ^ 64 ≤ n → small (digits_from n cs) ≡ None
too_large n [] le = rw (le-ltb n (2 ^ 64) le) refl
too_large n (c ∷ cs) le =
    elim (is_digit c) as (λ b. small (cond b (digits_from (10 * n + (c - 48)) cs) None) ≡ None) [
      | true ↦ too_large (10 * n + (c - 48)) cs (omega arith)
      | false ↦ refl
    ]

-- a digit that makes the number too large
pub overflows : (n i : ℕ) (word : List ℕ) → i < length word → 48 ≤ get_or word i 0 → get_or word i 0 ≤ 57 → 2 ^ 64 ≤ 10 * n + (get_or word i 0 - 48) → small (digits_from n (drop i word)) ≡ None
overflows n i word lt low high le =
    let digit : is_digit (get_or word i 0) ≡ true = grind (arith, nat_tests) in
    rw (drop-cons word i 0, digit) (too_large (10 * n + (get_or word i 0 - 48)) (drop (suc i) word) le)
