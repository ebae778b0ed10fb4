-- A piece that stands several times.
use Rattle.std.proofs.Common.{◌≡◌, ap, refl, ℕ, zero, suc, List, [], ◌∷◌, ◌++◌, append-nil}
use Rattle.std.specs.List.{repeat, AllZip}
use Rattle.plain_cord.specs.Texts.{repeated}

pub same-zip : (R : ℕ → ℕ → Type 0) → ((x y : ℕ) → R x y → y ≡ x) → (xs ys : List ℕ) → AllZip R xs ys → ys ≡ xs
same-zip R same [] [] all = refl
same-zip R same [] (y ∷ ys) all = absurd all
same-zip R same (x ∷ xs) [] all = absurd all
same-zip R same (x ∷ xs) (y ∷ ys) all = λ i. same x y all.0 i ∷ same-zip R same xs ys all.1 i

pub repeat-is : (n : ℕ) (xs : List ℕ) → repeat n xs ≡ repeated xs n
repeat-is zero xs = refl
repeat-is (suc n) xs = ap (λ (z : List ℕ). xs ++ z) (repeat-is n xs)

pub once : (xs : List ℕ) → repeated xs 1 ≡ xs
once xs = append-nil xs
