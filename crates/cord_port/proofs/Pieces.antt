-- A piece that was read behind the bytes so far.
use Rattle.std.proofs.Common.{◌≡◌, ◌+◌, ◌≤◌, ℕ, suc, List, [], ◌∷◌, ◌++◌, take, length, sym, ap, ◌∙◌, length-append, arith}
use Rattle.std.proofs.lemmas.List.{take-take, take-append-le}
use Rattle.cord_port.proofs.Taking.{all_taken}

-- the old bytes stand in front when room was made behind them
pub resized : (made olds fill : List ℕ) (start n : ℕ) → length olds ≡ start → start ≤ n → made ≡ take n olds ++ fill → take start made ≡ olds
resized made olds fill start n is le e = ap (λ z. take start z) e ∙ (ap (λ z. take start (z ++ fill)) (all_taken olds n (omega arith)) ∙ (take-append-le start olds fill (omega arith) ∙ all_taken olds start (omega arith)))

counted : (x : ℕ) (xs : List ℕ) (count : ℕ) → length (x ∷ xs) + count ≡ suc (length xs + count)
counted x xs count = omega arith

past : (olds ys : List ℕ) (count : ℕ) → take (length olds + count) (olds ++ ys) ≡ olds ++ take count ys
past [] ys count = ap (λ (z : ℕ). take z ys) (omega arith)
past (x ∷ xs) ys count = ap (λ (z : ℕ). take z (x ∷ (xs ++ ys))) (counted x xs count) ∙ ap (λ l. x ∷ l) (past xs ys count)

-- what is kept are the old bytes and those that were read
pub piece : (items olds front buf rest : List ℕ) (start count len : ℕ) → length olds ≡ start → front ≡ olds → count ≤ length buf → start + count ≤ len → items ≡ take (start + count) (take len ((front ++ buf) ++ rest)) → items ≡ olds ++ take count buf
piece items olds front buf rest start count len is same fits le e =
    let whole = length-append (olds ++ buf) rest in
    let both = length-append olds buf in
    let inside : start + count ≤ length (olds ++ buf) = omega arith in
    e
    ∙ (ap (λ z. take (start + count) (take len ((z ++ buf) ++ rest))) same
    ∙ (take-take (start + count) len ((olds ++ buf) ++ rest) le
    ∙ (take-append-le (start + count) (olds ++ buf) rest inside
    ∙ (ap (λ (z : ℕ). take (z + count) (olds ++ buf)) (sym is)
    ∙ past olds buf count))))
