-- The order of byte strings: slice_cmp is it, and each two strings stand in one way to each other.
use Rattle.std.proofs.Common.{◌≡◌, ◌∙◌, sym, ap, subst, refl, ℕ, ◌<◌, List, [], ◌∷◌, ◌++◌, suc, arith, ⊎_elim, inl, inr}
use Rattle.std.specs.Prelude.{◌⊎◌}
use Rattle.std.specs.Ordering.{nat_cmp, ordering_then, ordering_reverse, MatchOrdering}
use Rattle.std.specs.Cmp.Lexicographic.{slice_cmp}
use Rattle.std.specs.declared.cmp.Ordering.{Ordering}
use Rattle.std.specs.declared.cmp.Ordering.TheVariants.{Less, Equal, Greater}
use Rattle.std.proofs.lemmas.Cmp.{ranked, tied_itself, nat_cmp_total, nat_list_cmp_total}
use Rattle.std.proofs.lemmas.Bool.Decides.{nat_tests}
use Rattle.plain_cord.specs.Orders.{IsProperPrefix, HasSmallerByte, IsLess, ComparesAs}

-- behind one byte more the order is the same
less-behind : (b : ℕ) (xs ys : List ℕ) → IsLess xs ys → IsLess (b ∷ xs) (b ∷ ys)
less-behind b xs ys less = ⊎_elim
    (λ prefix. inl (record { next = prefix.next; rest = prefix.rest; parts = ap (λ bytes. b ∷ bytes) prefix.parts }))
    (λ smaller. inr (record {
      front = b ∷ smaller.front;
      smaller = smaller.smaller;
      larger = smaller.larger;
      xs_rest = smaller.xs_rest;
      ys_rest = smaller.ys_rest;
      xs_parts = ap (λ bytes. b ∷ bytes) smaller.xs_parts;
      ys_parts = ap (λ bytes. b ∷ bytes) smaller.ys_parts;
      below = smaller.below;
    })) less

compares-behind : (b : ℕ) (xs ys : List ℕ) (o : Ordering) → ComparesAs xs ys o → ComparesAs (b ∷ xs) (b ∷ ys) o
compares-behind b xs ys Less less = less-behind b xs ys less
compares-behind b xs ys Equal same = ap (λ bytes. b ∷ bytes) same
compares-behind b xs ys Greater less = less-behind b ys xs less

-- the first bytes decide, or what is behind them
first-decides : (x y : ℕ) (xs ys : List ℕ) (o : Ordering) → ComparesAs xs ys o → ComparesAs (x ∷ xs) (y ∷ ys) (ordering_then (nat_cmp x y) o)
first-decides x y xs ys o rest = decided (nat_cmp x y) (ranked x y (nat_cmp x y) refl)
  where
    decided : (first : Ordering) → MatchOrdering first (x < y) (x ≡ y) (y < x) → ComparesAs (x ∷ xs) (y ∷ ys) (ordering_then first o)
    decided Less below = inr (record { front = []; smaller = x; larger = y; xs_rest = xs; ys_rest = ys; xs_parts = refl; ys_parts = refl; below = below })
    decided Equal same = subst (λ (b : ℕ). ComparesAs (x ∷ xs) (b ∷ ys) o) same (compares-behind x xs ys o rest)
    decided Greater below = inr (record { front = []; smaller = y; larger = x; xs_rest = ys; ys_rest = xs; xs_parts = refl; ys_parts = refl; below = below })

pub slice_cmp-compares : (xs ys : List ℕ) → ComparesAs xs ys (slice_cmp nat_cmp xs ys)
slice_cmp-compares [] [] = refl
slice_cmp-compares [] (y ∷ ys) = inl (record { next = y; rest = ys; parts = refl })
slice_cmp-compares (x ∷ xs) [] = inl (record { next = x; rest = xs; parts = refl })
slice_cmp-compares (x ∷ xs) (y ∷ ys) = first-decides x y xs ys (slice_cmp nat_cmp xs ys) (slice_cmp-compares xs ys)

-- the same byte in front changes nothing
same-first : (b : ℕ) (xs ys : List ℕ) → slice_cmp nat_cmp (b ∷ xs) (b ∷ ys) ≡ slice_cmp nat_cmp xs ys
same-first b xs ys = ap (λ first. ordering_then first (slice_cmp nat_cmp xs ys)) (tied_itself nat_cmp_total b)

prefix-cmp : (xs : List ℕ) (next : ℕ) (rest : List ℕ) → slice_cmp nat_cmp xs (xs ++ next ∷ rest) ≡ Less
prefix-cmp [] next rest = refl
prefix-cmp (x ∷ xs) next rest = same-first x xs (xs ++ next ∷ rest) ∙ prefix-cmp xs next rest

smaller-cmp : (front : List ℕ) (smaller larger : ℕ) (xs ys : List ℕ) → smaller < larger → slice_cmp nat_cmp (front ++ smaller ∷ xs) (front ++ larger ∷ ys) ≡ Less
smaller-cmp [] smaller larger xs ys below = ap (λ first. ordering_then first (slice_cmp nat_cmp xs ys)) less
  where
    less : nat_cmp smaller larger ≡ Less
    less = grind (arith, nat_tests)
smaller-cmp (b ∷ front) smaller larger xs ys below = same-first b (front ++ smaller ∷ xs) (front ++ larger ∷ ys) ∙ smaller-cmp front smaller larger xs ys below

less-cmp : (xs ys : List ℕ) → IsLess xs ys → slice_cmp nat_cmp xs ys ≡ Less
less-cmp xs ys less = ⊎_elim
    (λ prefix. ap (λ bytes. slice_cmp nat_cmp xs bytes) prefix.parts ∙ prefix-cmp xs prefix.next prefix.rest)
    (λ smaller. ap (λ bytes. slice_cmp nat_cmp bytes ys) smaller.xs_parts ∙ (ap (λ bytes. slice_cmp nat_cmp (smaller.front ++ smaller.smaller ∷ smaller.xs_rest) bytes) smaller.ys_parts
    ∙ smaller-cmp smaller.front smaller.smaller smaller.larger smaller.xs_rest smaller.ys_rest smaller.below)) less

-- two byte strings stand in one way to each other
pub compares-value : (xs ys : List ℕ) (o : Ordering) → ComparesAs xs ys o → o ≡ slice_cmp nat_cmp xs ys
compares-value xs ys Less less = sym (less-cmp xs ys less)
compares-value xs ys Equal same = sym (ap (λ bytes. slice_cmp nat_cmp xs bytes) (sym same) ∙ tied_itself nat_list_cmp_total xs)
compares-value xs ys Greater less = sym (nat_list_cmp_total.antisymm xs ys ∙ ap ordering_reverse (less-cmp ys xs less))

pub less-through : (xs ys zs : List ℕ) → IsLess xs ys → IsLess ys zs → IsLess xs zs
less-through xs ys zs first second =
    subst (λ (o : Ordering). ComparesAs xs zs o) (nat_list_cmp_total.trans xs ys zs (less-cmp xs ys first) (less-cmp ys zs second)) (slice_cmp-compares xs zs)
