-- Places in a chunk from which a needle may go on behind it.
use Rattle.std.proofs.Common.{ℕ, ◌≡◌, ◌-◌, ◌+◌, ◌<◌, ◌≤◌, ◌⊎◌, inl, inr, List, length, take, drop, sym, ap, subst, ◌∙◌, arith, eq-eqb, Option, Some, None}
use Rattle.std.specs.Prelude.{slice_index}
use Rattle.std.proofs.lemmas.Bool.{cases_lt}
use Rattle.std.proofs.lemmas.List.{get_or-drop, get_or-take, length-drop, take_all}
use Rattle.memchr.specs.Find.{OccursAt, Nowhere, IsFirst, Passes, is_byte}

nowhere-by : (P : ℕ → Type 0) (i j m k : ℕ) → Nowhere P i j → ((n : ℕ) → j ≤ n → n < m → ¬ P n) → i ≤ k → k < m → (k < j) ⊎ (j ≤ k) → ¬ P k
nowhere-by P i j m k none more low high (inl lt) = none k low lt
nowhere-by P i j m k none more low high (inr le) = more k le high

-- nowhere up to a place, and from there on
pub nowhere-more : (P : ℕ → Type 0) (i j m : ℕ) → Nowhere P i j → ((n : ℕ) → j ≤ n → n < m → ¬ P n) → Nowhere P i m
nowhere-more P i j m none more = λ k low high. nowhere-by P i j m k none more low high (cases_lt k j)

module _ (hay needle chunk : List ℕ) (start : ℕ) (is : chunk ≡ take (length chunk) (drop start hay)) where
  -- the chunk's bytes are those of the whole
  pub byte-in : (k : ℕ) → k < length chunk → slice_index chunk k ≡ slice_index hay (start + k)
  byte-in k lt =
      ap (λ t. slice_index t k) is
      ∙ get_or-take (length chunk) (drop start hay) k 0 lt
      ∙ get_or-drop start hay k 0

  -- what a chunk has from a place on
  abbrev pub rest_from : ℕ → List ℕ
  rest_from from = take (length chunk - from) (drop from chunk)

  pub rest-from : (from : ℕ) → rest_from from ≡ drop from chunk
  rest-from from = take_all (length chunk - from) (drop from chunk) (omega (arith, length-drop from chunk))

  module _ (some : 0 < length needle) where
    -- the needle's first byte stands where the needle does
    first-byte : (from j : ℕ) → from + j < length chunk → OccursAt hay needle (start + (from + j)) → Passes (is_byte (slice_index needle 0)) (drop from chunk) j
    first-byte from j lt occurs =
        eq-eqb (slice_index (drop from chunk) j) (slice_index needle 0)
        (get_or-drop from chunk j 0 ∙ byte-in (from + j) lt ∙ ap (slice_index hay) (omega arith) ∙ occurs.reads 0 some)

    -- so it stands at no place that was passed
    pub passed-by : (from n : ℕ) → from + n ≤ length chunk → Nowhere (Passes (is_byte (slice_index needle 0)) (rest_from from)) 0 n
        → (k : ℕ) → start + from ≤ k → k < start + (from + n) → ¬ OccursAt hay needle k
    passed-by from n le none k low high occurs =
        let j = k - (start + from) in
        let at : k ≡ start + (from + j) = omega (arith, low) in
        let stands = first-byte from j (omega (arith, low, high, le)) (subst (OccursAt hay needle) at occurs) in
        none j (omega arith) (omega (arith, low, high)) (subst (λ t. Passes (is_byte (slice_index needle 0)) t j) (sym (rest-from from)) stands)

-- nor at one place more
pub nowhere-one : (P : ℕ → Type 0) (i j m : ℕ) → Nowhere P i j → ¬ P j → m ≤ j + 1 → Nowhere P i m
nowhere-one P i j m none not le = nowhere-more P i j m none (λ n low high. let at : n ≡ j = omega (arith, low, high, le) in subst (λ (k : ℕ). ¬ P k) (sym at) not)

-- the first place behind places where it isn't
pub first-more : (P : ℕ → Type 0) (i j m : ℕ) (r : Option ℕ) → i ≤ j → Nowhere P i j → IsFirst P j m r → IsFirst P i m r
first-more P i j m None le none first = nowhere-more P i j m none first
first-more P i j m (Some k) le none first = (record { low = omega (arith, le, first.0.low); high = first.0.high; before = nowhere-more P i j k none first.0.before }, first.1)
