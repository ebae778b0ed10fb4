-- The slots and their boxes when a pool begins.
use Rattle.std.proofs.Common.{◌≡◌, ◌⊎◌, inl, inr, ⊎_elim, eq-eqb, ℕ, zero, suc, ◌+◌, ◌<◌, ◌≤◌, eqb, ne_eqb, List, [], ◌∷◌, ◌++◌, map, refl, sym, ap, ◌∙◌, arith}
use Rattle.std.specs.Prelude.{Option, Some, None, slice_index_or}
use mathlib.Core.Logic.{dite}
use mathlib.Core.Option.{some, some-injective, some-ne-none}
use native.Mathlib.Decide.{ℕ_discrete}
use lib.ListN.{get_elem?}
use Rattle.node_forest.specs.Counts.{one_if}
use Rattle.pool_rule.specs.Pools.{Handed, Box, Member, slot_times}
use Rattle.node_pool.specs.Boxes.{handed_of, fresh_of, below}

times_last : (j : ℕ) (is : List ℕ) (i : ℕ) → slot_times j (is ++ i ∷ []) ≡ slot_times j is + one_if (eqb j i)
times_last j [] i = omega arith
times_last j (k ∷ ks) i = omega (arith, times_last j ks i)

below_none : (n j : ℕ) → n ≤ j → slot_times j (below n) ≡ 0
below_none zero j l = refl
below_none (suc n) j l =
    let z : one_if (eqb j n) ≡ 0 = ap one_if (ne_eqb j n (λ e. omega (arith, e, l))) in
    omega (arith, times_last j (below n) n, below_none n j (omega (arith, l)), z)

-- each number below n stands once
pub below_once : (n j : ℕ) → slot_times j (below n) ≤ 1
below_once zero j = omega arith
below_once (suc n) j =
    dite (ℕ_discrete j n)
    (λ e. let one : one_if (eqb j n) ≡ 1 = ap one_if (eq-eqb j n e) in omega (arith, times_last j (below n) n, below_none n j (omega (arith, e)), one))
    (λ ne. let z : one_if (eqb j n) ≡ 0 = ap one_if (ne_eqb j n ne) in omega (arith, times_last j (below n) n, below_once n j, z))

pub below_inside : (n j : ℕ) → Member j (below n) → j < n
below_inside zero j h = absurd h
below_inside (suc n) j h = ⊎_elim (λ a. let l = below_inside n j a in omega (arith, l)) (λ e. omega (arith, e)) (last (below n) h)
  where
    last : (is : List ℕ) → Member j (is ++ n ∷ []) → Member j is ⊎ (j ≡ n)
    last [] (inl e) = inr e
    last [] (inr h) = absurd h
    last (i ∷ is) (inl e) = inl (inl e)
    last (i ∷ is) (inr h) = ⊎_elim (λ a. inl (inr a)) (λ b. inr b) (last is h)

-- each slot's box wasn't called
pub each_fresh : {S : Type 0} (seen : S → Option Box) (d : Handed) (xs : List S) (bs : List (ℕ × Option ℕ)) → map seen xs ≡ map fresh_of bs → (j : ℕ) (y : S) → get_elem? xs j ≡ some y → seen y ≡ Some (record { handed = slice_index_or (map handed_of bs) j d; length = None })
each_fresh seen d [] bs e j y at = absurd (some-ne-none y (sym at))
each_fresh seen d (x ∷ xs) [] e j y at = absurd (cc)
each_fresh seen d (x ∷ xs) (b ∷ bs) e zero y at = let here : seen x ≡ fresh_of b = ap (first_of (seen x)) e in ap seen (sym (some-injective x y at)) ∙ here
  where
    first_of : Option Box → List (Option Box) → Option Box
    first_of d [] = d
    first_of d (x ∷ xs) = x
each_fresh seen d (x ∷ xs) (b ∷ bs) e (suc j) y at = each_fresh seen d xs bs (ap rest_of e) j y at
  where
    rest_of : List (Option Box) → List (Option Box)
    rest_of [] = []
    rest_of (x ∷ xs) = xs
