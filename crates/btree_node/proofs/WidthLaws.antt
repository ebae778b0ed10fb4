-- How wide levels are.
use Rattle.std.proofs.Common.{ℕ, zero, suc, ◌≡◌, ◌+◌, ◌-◌, ◌*◌, ◌<◌, ◌≤◌, refl, ap, arith}
use mathlib.Core.Logic.{dite}
use native.Mathlib.Decide.{ℕ_discrete}
use Rattle.tree_shapes.specs.Room.{most_under}

pub most-suc : (l : ℕ) → most_under (suc l) ≡ 6 * most_under l
unfolding most_under
most-suc l = refl

most-more : (k l : ℕ) → most_under l ≤ most_under (k + l)
most-more zero l = let e : 0 + l ≡ l = omega arith in omega (arith, ap most_under e)
most-more (suc k) l = let e : suc k + l ≡ suc (k + l) = omega arith in omega (arith, ap most_under e, most-suc (k + l), most-more k l)

pub most-le : (l m : ℕ) → l ≤ m → most_under l ≤ most_under m
most-le l m h = let e : (m - l) + l ≡ m = omega arith in omega (arith, most-more (m - l) l, ap most_under e)

most-twelve : most_under 12 ≡ 2176782336
unfolding most_under
most-twelve = refl

pub most-none : most_under 0 ≡ 1
unfolding most_under
most-none = refl

pub most-small : (l : ℕ) → l ≤ 12 → most_under l ≤ 2176782336
most-small l h = omega (arith, most-le l 12 h, most-twelve)

pub most-some : (l : ℕ) → 0 < most_under l
most-some zero = omega (arith, most-none)
most-some (suc l) = omega (arith, most-suc l, most-some l)

-- ---- rooms are small
five-le : (n p : ℕ) → n ≤ 5 → n * p ≤ 5 * p
five-le n p h = dite (ℕ_discrete n 5)
    (λ e. omega (arith, ap (λ (k : ℕ). k * p) e))
    (λ ne. dite (ℕ_discrete n 4)
    (λ e. omega (arith, ap (λ (k : ℕ). k * p) e))
    (λ ne4. dite (ℕ_discrete n 3)
    (λ e. omega (arith, ap (λ (k : ℕ). k * p) e))
    (λ ne3. dite (ℕ_discrete n 2)
    (λ e. omega (arith, ap (λ (k : ℕ). k * p) e))
    (λ ne2. dite (ℕ_discrete n 1)
    (λ e. omega (arith, ap (λ (k : ℕ). k * p) e))
    (λ ne1. let z : n ≡ 0 = omega (arith, h, ne, ne4, ne3, ne2, ne1) in omega (arith, ap (λ (k : ℕ). k * p) z))))))

pub rooms-small : (n p q : ℕ) → q ≡ 6 * p → 0 < p → (r : ℕ) → r < p → r + (5 - n) * p < q
rooms-small n p q e some r h = omega (arith, five-le (5 - n) p (omega arith), e, h)

pub few-rooms : (n p : ℕ) → (5 - n) * p ≤ 5 * p
few-rooms n p = five-le (5 - n) p (omega arith)
