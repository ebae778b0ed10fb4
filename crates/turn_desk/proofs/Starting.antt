-- Values that go into slots, and come back where there is no memory.
use Rattle.std.proofs.Common.{◌≡◌, List, [], ◌∷◌, ◌++◌, map, refl, ap, Option, Some, None}
use Rattle.turn_desk.specs.Spots.{values_of}

pub values_one_more : {X : Type 0} (xs : List (Option X)) (x : X) → values_of (xs ++ Some x ∷ []) ≡ values_of xs ++ x ∷ []
values_one_more [] x = refl
values_one_more (None ∷ xs) x = values_one_more xs x
values_one_more (Some y ∷ xs) x = ap (λ l. y ∷ l) (values_one_more xs x)

pub values_no_more : {X : Type 0} (xs : List (Option X)) → values_of (xs ++ None ∷ []) ≡ values_of xs
values_no_more [] = refl
values_no_more (None ∷ xs) = values_no_more xs
values_no_more (Some y ∷ xs) = ap (λ l. y ∷ l) (values_no_more xs)

pub values_back : {X : Type 0} (xs : List X) → values_of (map Some xs) ≡ xs
values_back [] = refl
values_back (x ∷ xs) = ap (λ l. x ∷ l) (values_back xs)
