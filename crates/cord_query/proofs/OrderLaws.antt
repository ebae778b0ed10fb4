-- The order of joined byte strings is that of their parts, one after another.
use Rattle.std.proofs.Common.{ℕ, ◌≡◌, ◌-◌, ◌+◌, ◌<◌, ◌≤◌, List, [], ◌∷◌, ◌++◌, length, take, drop, refl, sym, ap, ◌∙◌, arith}
use Rattle.std.specs.Ordering.{nat_cmp, ordering_then}
use Rattle.std.specs.Cmp.Lexicographic.{slice_cmp}
use Rattle.std.specs.declared.cmp.Ordering.{Ordering}
use Rattle.std.specs.declared.cmp.Ordering.TheVariants.{Less, Equal, Greater}
use Rattle.std.proofs.lemmas.List.{take-append-drop, take-take, drop-take, length-take-le}

then-grouped : (a b c : Ordering) → ordering_then (ordering_then a b) c ≡ ordering_then a (ordering_then b c)
then-grouped Less b c = refl
then-grouped Equal b c = refl
then-grouped Greater b c = refl

-- what is in front decides, or else what is behind it
pub cmp-parts : (xs more ys : List ℕ)
    → slice_cmp nat_cmp (xs ++ more) ys ≡ ordering_then (slice_cmp nat_cmp xs (take (length xs) ys)) (slice_cmp nat_cmp more (drop (length xs) ys))
cmp-parts [] more ys = refl
cmp-parts (x ∷ xs) more [] = refl
cmp-parts (x ∷ xs) more (y ∷ ys) =
    ap (ordering_then (nat_cmp x y)) (cmp-parts xs more ys)
    ∙ sym (then-grouped (nat_cmp x y) (slice_cmp nat_cmp xs (take (length xs) ys)) (slice_cmp nat_cmp more (drop (length xs) ys)))

-- a text beside as many bytes, of which a piece stands in front
pub cmp-step : (rest all piece : List ℕ) → length piece ≤ length rest → piece ≡ take (length piece) all
    → slice_cmp nat_cmp rest (take (length rest) all)
    ≡ ordering_then (slice_cmp nat_cmp (take (length piece) rest) piece)
    (slice_cmp nat_cmp (drop (length piece) rest) (take (length rest - length piece) (drop (length piece) all)))
cmp-step rest all piece few is =
    let k = length piece in
    let n = length rest in
    let long = length-take-le k rest few in
    let sum : n ≡ k + (n - k) = omega (arith, few) in
    ap (λ t. slice_cmp nat_cmp t (take n all)) (sym (take-append-drop k rest))
    ∙ cmp-parts (take k rest) (drop k rest) (take n all)
    ∙ ap (λ (m : ℕ). ordering_then (slice_cmp nat_cmp (take k rest) (take m (take n all))) (slice_cmp nat_cmp (drop k rest) (drop m (take n all)))) long
    ∙ ap (λ t. ordering_then (slice_cmp nat_cmp (take k rest) t) (slice_cmp nat_cmp (drop k rest) (drop k (take n all)))) (take-take k n all few ∙ sym is)
    ∙ ap (λ (m : ℕ). ordering_then (slice_cmp nat_cmp (take k rest) piece) (slice_cmp nat_cmp (drop k rest) (drop k (take m all)))) sum
    ∙ ap (λ t. ordering_then (slice_cmp nat_cmp (take k rest) piece) (slice_cmp nat_cmp (drop k rest) t)) (drop-take k (n - k) all)

-- a text stands behind no bytes
pub cmp-longer : (rest all : List ℕ) → 0 < length rest → all ≡ [] → Greater ≡ slice_cmp nat_cmp rest (take (length rest) all)
cmp-longer [] all some none = absurd (omega (arith, some))
cmp-longer (x ∷ xs) all some none = sym (ap (λ t. slice_cmp nat_cmp (x ∷ xs) (take (length (x ∷ xs)) t)) none)

pub then-first : (a b : Ordering) → (a ≡ Equal → ⊥) → ordering_then a b ≡ a
then-first Less b apart = refl
then-first Equal b apart = absurd (apart refl)
then-first Greater b apart = refl

-- bytes, of which a chunk comes next, beside others
pub cmp-next : (xs ys chunk : List ℕ) → chunk ≡ take (length chunk) xs
    → slice_cmp nat_cmp xs ys ≡ ordering_then (slice_cmp nat_cmp chunk (take (length chunk) ys)) (slice_cmp nat_cmp (drop (length chunk) xs) (drop (length chunk) ys))
cmp-next xs ys chunk is =
    let k = length chunk in
    ap (λ t. slice_cmp nat_cmp t ys) (sym (take-append-drop k xs) ∙ ap (λ t. t ++ drop k xs) (sym is)) ∙ cmp-parts chunk (drop k xs) ys

-- nothing beside nothing, and beside something
pub cmp-none : (xs ys : List ℕ) → xs ≡ [] → ys ≡ [] → Equal ≡ slice_cmp nat_cmp xs ys
cmp-none xs ys first second = rw (first, second) refl

pub cmp-less : (xs ys : List ℕ) → xs ≡ [] → 0 < length ys → Less ≡ slice_cmp nat_cmp xs ys
cmp-less xs [] none some = absurd (omega (arith, some))
cmp-less xs (y ∷ ys) none some = ap (λ t. slice_cmp nat_cmp t (y ∷ ys)) (sym none)
