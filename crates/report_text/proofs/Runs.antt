-- Runs of bytes that pass a test, up to one that doesn't: a text that begins with one splits in one way.
use Rattle.std.proofs.Common.{◌≡◌, ◌∙◌, sym, ap, ap₂, subst, refl, ℕ, zero, suc, ◌+◌, ◌/◌, ◌%◌, ◌<◌, ◌^◌, Bool, true, false, if◌then◌else◌, List, [], ◌∷◌, ◌++◌, length, get_or, arith, nat_le, nat_lt, ◌==◌, ◌&&◌, decimal, ltb-false}
use Rattle.std.specs.Fmt.{digits, digits_onto, digit_glyph}
use Rattle.std.proofs.lemmas.Fmt.{decimal_injective}
use Rattle.std.proofs.lemmas.Bool.{cond_both}
use Rattle.std.proofs.lemmas.Bool.Decides.{nat_tests}

abbrev pub all_pass : (ℕ → Bool) → List ℕ → Bool
all_pass test [] = true
all_pass test (b ∷ bytes) = if test b then all_pass test bytes else false

-- none of the run is in front of these bytes
abbrev pub stops : (ℕ → Bool) → List ℕ → Bool
stops test [] = true
stops test (b ∷ bytes) = if test b then false else true

-- a test that passed, and one that failed
first-passes : (first rest : Bool) → (if first then rest else false) ≡ true → first ≡ true
first-passes true rest h = refl
first-passes false rest h = cc

rest-passes : (first rest : Bool) → (if first then rest else false) ≡ true → rest ≡ true
rest-passes true rest h = h
rest-passes false rest h = cc

first-stops : (first : Bool) → first ≡ true → (if first then false else true) ≡ true → ⊥
first-stops true h k = cc
first-stops false h k = cc

pub both-pass : (first rest : Bool) → first ≡ true → rest ≡ true → (if first then rest else false) ≡ true
both-pass true rest h k = k
both-pass false rest h k = cc

pub all_pass-append : (test : ℕ → Bool) (xs ys : List ℕ) → all_pass test xs ≡ true → all_pass test ys ≡ true → all_pass test (xs ++ ys) ≡ true
all_pass-append test [] ys h k = k
all_pass-append test (x ∷ xs) ys h k =
    both-pass (test x) (all_pass test (xs ++ ys)) (first-passes (test x) (all_pass test xs) h)
    (all_pass-append test xs ys (rest-passes (test x) (all_pass test xs) h) k)

pub run_split : (test : ℕ → Bool) (xs ys rest others : List ℕ) → all_pass test xs ≡ true → all_pass test ys ≡ true → stops test rest ≡ true → stops test others ≡ true → xs ++ rest ≡ ys ++ others → (xs ≡ ys) × (rest ≡ others)
run_split test [] [] rest others px py sr so e = (refl, e)
run_split test [] (y ∷ ys) rest others px py sr so e =
    absurd (first-stops (test y) (first-passes (test y) (all_pass test ys) py) (sym (ap (stops test) e) ∙ sr))
run_split test (x ∷ xs) [] rest others px py sr so e =
    absurd (first-stops (test x) (first-passes (test x) (all_pass test xs) px) (ap (stops test) e ∙ so))
run_split test (x ∷ xs) (y ∷ ys) rest others px py sr so e =
    let behind : xs ++ rest ≡ ys ++ others = cc in
    let split = run_split test xs ys rest others (rest-passes (test x) (all_pass test xs) px) (rest-passes (test y) (all_pass test ys) py) sr so behind in
    let same : x ≡ y = cc in
    (ap₂ (λ b bytes. b ∷ bytes) same split.0, split.1)

-- a run that isn't empty begins with a byte that passes
run-first : (test : ℕ → Bool) (xs rest : List ℕ) (d : ℕ) → 0 < length xs → all_pass test xs ≡ true → test (get_or (xs ++ rest) 0 d) ≡ true
run-first test [] rest d long px = absurd (omega arith)
run-first test (x ∷ xs) rest d long px = first-passes (test x) (all_pass test xs) px

run-begins : (test : ℕ → Bool) (xs rest others : List ℕ) → 0 < length xs → all_pass test xs ≡ true → xs ++ rest ≡ others → stops test others ≡ true → ⊥
run-begins test [] rest others long px e so = absurd (omega arith)
run-begins test (x ∷ xs) rest others long px e so = first-stops (test x) (first-passes (test x) (all_pass test xs) px) (ap (stops test) e ∙ so)

-- numbers
abbrev pub is_digit : ℕ → Bool
is_digit b = nat_le 48 b && nat_le b 57

digits-are : (n : ℕ) → digits_onto 64 10 false n [] ≡ decimal n
unfolding digits
digits-are n = refl

module _ (test : ℕ → Bool) (passes : (d : ℕ) → d < 10 → test (48 + d) ≡ true) where
  glyph-passes : (d : ℕ) → d < 10 → test (digit_glyph false d) ≡ true
  glyph-passes d below = cond_both (nat_lt d 10) (48 + d) (87 + d) (λ x. test x ≡ true) (λ yes. passes d below) (λ no. absurd (omega (arith, ltb-false d 10 no)))

  onto-passes : (k n : ℕ) (ds : List ℕ) → all_pass test ds ≡ true → all_pass test (digits_onto k 10 false n ds) ≡ true
  onto-passes zero n ds h = h
  onto-passes (suc k) n ds h =
      let more : all_pass test (digit_glyph false (n % 10) ∷ ds) ≡ true = both-pass (test (digit_glyph false (n % 10))) (all_pass test ds) (glyph-passes (n % 10) (omega arith)) h in
      cond_both (n / 10 == 0) (digit_glyph false (n % 10) ∷ ds) (digits_onto k 10 false (n / 10) (digit_glyph false (n % 10) ∷ ds)) (λ ds. all_pass test ds ≡ true) (λ _. more) (λ _. onto-passes k (n / 10) (digit_glyph false (n % 10) ∷ ds) more)

  -- also of a number of more than 64 digits, of which those are cut off
  pub decimal-passes : (n : ℕ) → all_pass test (decimal n) ≡ true
  decimal-passes n = subst (λ (ds : List ℕ). all_pass test ds ≡ true) (digits-are n) (onto-passes 64 n [] refl)

onto-long : (k n : ℕ) (ds : List ℕ) → 0 < k + length ds → 0 < length (digits_onto k 10 false n ds)
onto-long zero n ds h = omega arith
onto-long (suc k) n ds h = cond_both (n / 10 == 0) (digit_glyph false (n % 10) ∷ ds) (digits_onto k 10 false (n / 10) (digit_glyph false (n % 10) ∷ ds)) (λ ds. 0 < length ds) (λ _. omega arith) (λ _. onto-long k (n / 10) (digit_glyph false (n % 10) ∷ ds) (omega arith))

decimal-long : (n : ℕ) → 0 < length (decimal n)
decimal-long n = subst (λ (ds : List ℕ). 0 < length ds) (digits-are n) (onto-long 64 n [] (omega arith))

digit-is_digit : (d : ℕ) → d < 10 → is_digit (48 + d) ≡ true
digit-is_digit d below = grind (arith, nat_tests)

digits-pass : (n : ℕ) → all_pass is_digit (decimal n) ≡ true
digits-pass n = decimal-passes is_digit digit-is_digit n

pub decimal_split : (m n : ℕ) (rest others : List ℕ) → m < 2 ^ 64 → n < 2 ^ 64 → stops is_digit rest ≡ true → stops is_digit others ≡ true → decimal m ++ rest ≡ decimal n ++ others → (m ≡ n) × (rest ≡ others)
decimal_split m n rest others first second sr so e =
    let split = run_split is_digit (decimal m) (decimal n) rest others (digits-pass m) (digits-pass n) sr so e in
    (decimal_injective m n first second split.0, split.1)

pub decimal-begins : (n : ℕ) (rest others : List ℕ) → decimal n ++ rest ≡ others → stops is_digit others ≡ true → ⊥
decimal-begins n rest others = run-begins is_digit (decimal n) rest others (decimal-long n) (digits-pass n)

pub decimal-first : (n : ℕ) (rest : List ℕ) (d : ℕ) → is_digit (get_or (decimal n ++ rest) 0 d) ≡ true
decimal-first n rest d = run-first is_digit (decimal n) rest d (decimal-long n) (digits-pass n)
