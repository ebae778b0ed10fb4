-- What a read from memory copies.
use Rattle.std.proofs.lemmas.List.{drop-drop}
use Rattle.std.proofs.Common.{◌≡◌, ◌+◌, ◌-◌, ◌<◌, ◌≤◌, ℕ, zero, suc, List, [], ◌∷◌, ◌++◌, take, drop, length, min, refl, sym, ap, ◌∙◌, length-append, arith}
use Rattle.cord_port.proofs.Taking.{all_taken, length_dropped}

rests : (xs out rest : List ℕ) (n : ℕ) → n ≤ length xs → out ≡ take n xs → xs ≡ take n (out ++ rest) ++ drop n xs
rests xs out rest n h e = ap (λ z. z) (go xs rest n h) ∙ ap (λ z. take n (z ++ rest) ++ drop n xs) (sym e)
  where
    go : (xs rest : List ℕ) (n : ℕ) → n ≤ length xs → xs ≡ take n (take n xs ++ rest) ++ drop n xs
    go xs rest zero h = refl
    go [] rest (suc n) h = absurd (omega arith)
    go (x ∷ xs) rest (suc n) h = ap (λ l. x ∷ l) (go xs rest n (omega arith))

-- the bytes that are left are those that were copied and those behind them
pub gives : (xs buf out : List ℕ) (at n : ℕ) → n ≡ min (length (take (length xs - at) (drop at xs))) (length buf) → out ≡ take n (take (length xs - at) (drop at xs)) → drop at xs ≡ take n (out ++ drop n buf) ++ drop (at + n) xs
gives xs buf out at n is e =
    let long = length_dropped xs at in
    let all = all_taken (drop at xs) (length xs - at) (omega arith) in
    let len = ap length all in
    let fits : n ≤ length (drop at xs) = omega arith in
    rests (drop at xs) out (drop n buf) n fits (e ∙ ap (take n) all) ∙ ap (λ z. take n (out ++ drop n buf) ++ z) (drop-drop n at xs)

-- where nothing was copied although there was room, nothing is left
pub at_end : (xs buf out : List ℕ) (at n : ℕ) → n ≡ min (length (take (length xs - at) (drop at xs))) (length buf) → n ≡ 0 → 0 < length (out ++ drop n buf) → length out ≡ n → drop (at + n) xs ≡ []
at_end xs buf out at n is none some len =
    let long = length_dropped xs at in
    let all = ap length (all_taken (drop at xs) (length xs - at) (omega arith)) in
    let more = length_dropped xs (at + n) in
    let left = length_dropped buf n in
    let both = length-append out (drop n buf) in
    empty (drop (at + n) xs) (omega arith)
  where
    empty : (l : List ℕ) → length l ≡ 0 → l ≡ []
    empty [] e = refl
    empty (x ∷ l) e = absurd (omega arith)
