-- Sums over the numbers below a bound.
use Rattle.std.proofs.Common.{◌≡◌, ℕ, zero, suc, ◌+◌, ◌*◌, ◌<◌, ◌≤◌, ◌≢◌, refl, ap, arith}
use mathlib.Core.Logic.{dite}
use native.Mathlib.Decide.{ℕ_discrete, dec_le}
use Rattle.count_core.specs.SoundBelow.{sum_below}

pub sum_same : (k : ℕ) (f g : ℕ → ℕ) → ((q : ℕ) → q < k → f q ≡ g q) → sum_below k f ≡ sum_below k g
sum_same zero f g h = refl
sum_same (suc k) f g h = let a = h k (omega arith) in let b = sum_same k f g (λ q l. h q (omega arith)) in omega arith

-- sums of functions that differ at one place alone
pub sum_at : (k j : ℕ) (f g : ℕ → ℕ) → j < k → ((q : ℕ) → q < k → q ≢ j → f q ≡ g q) → sum_below k f + g j ≡ sum_below k g + f j
sum_at zero j f g l h = absurd (omega arith)
sum_at (suc k) j f g l h =
    dite (ℕ_discrete k j)
    (λ e. let same = sum_same k f g (λ q m. h q (omega arith) (λ x. omega arith)) in let a : f k ≡ f j = ap f e in let b : g k ≡ g j = ap g e in omega arith)
    (λ ne. let a = h k (omega arith) ne in let b = sum_at k j f g (let ne' : k ≢ j = ne in omega arith) (λ q m. h q (omega arith)) in omega arith)

pub at_le_sum : (k j : ℕ) (f : ℕ → ℕ) → j < k → f j ≤ sum_below k f
at_le_sum zero j f l = absurd (omega arith)
at_le_sum (suc k) j f l = dite (ℕ_discrete k j) (λ e. let a : f k ≡ f j = ap f e in omega arith) (λ ne. let ne' : k ≢ j = ne in let b = at_le_sum k j f (omega arith) in omega arith)

pub sum_some : (k : ℕ) (f : ℕ → ℕ) → 1 ≤ sum_below k f → (j : ℕ) × (j < k) × (1 ≤ f j)
sum_some zero f l = absurd (omega arith)
sum_some (suc k) f l = dite (dec_le 1 (f k)) (λ y. (k, omega arith, y)) (λ n. let r = sum_some k f (let n' : 1 ≤ f k → ⊥ = n in omega arith) in (r.0, (let b = r.1 in omega arith), r.2))

pub sum_le : (k c : ℕ) (f : ℕ → ℕ) → ((q : ℕ) → q < k → f q ≤ c) → sum_below k f ≤ k * c
sum_le zero c f h = omega arith
sum_le (suc k) c f h = let a = h k (omega arith) in let b = sum_le k c f (λ q l. h q (omega arith)) in grind arith
