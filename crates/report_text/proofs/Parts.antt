-- Lines in front of one, the one, and the lines behind it.
use Rattle.std.proofs.Common.{◌≡◌, ◌∙◌, sym, ap, ℕ, ◌+◌, ◌<◌, ◌≤◌, arith, List, ◌++◌, suc, length, take, drop, get_or, drop-cons}
use Rattle.std.specs.List.{flat_map, zip}
use Rattle.std.proofs.lemmas.List.{take-append-drop, take_all}
use Rattle.std.proofs.lemmas.Slice.Zip.{get_or-zip, length-zip}
use Rattle.std.proofs.lemmas.Grind.{common_steps, flat_map-append}

pub flat_map-parts : {X : Type 0} (f : X → List ℕ) (xs : List X) (i : ℕ) (d : X) → i < length xs → flat_map f xs ≡ flat_map f (take i xs) ++ (f (get_or xs i d) ++ flat_map f (drop (suc i) xs))
flat_map-parts f xs i d inside = ap (flat_map f) (sym (take-append-drop i xs)) ∙ (flat_map-append f (take i xs) (drop i xs) ∙ ap (λ rest. flat_map f (take i xs) ++ flat_map f rest) (drop-cons xs i d inside))

-- the same up to the one, with it
pub flat_map-more : {X : Type 0} (f : X → List ℕ) (xs : List X) (i : ℕ) (d : X) → i < length xs → flat_map f (take i xs) ++ f (get_or xs i d) ≡ flat_map f (take (i + 1) xs)
flat_map-more f xs i d inside = grind (arith, common_steps)

-- two lists side by side, where both have a place i
pub zip-at : {X Y : Type 0} (xs : List X) (ys : List Y) (i : ℕ) (x : X) (y : Y) → i < length xs → i < length ys → x ≡ get_or xs i x → y ≡ get_or ys i y → get_or (zip xs ys) i (x, y) ≡ (x, y)
zip-at xs ys i x y within inside first second = get_or-zip xs ys i (x, y) within inside ∙ (ap (λ z. (z, get_or ys i y)) (sym first) ∙ ap (λ z. (x, z)) (sym second))

pub zip-long : {X Y : Type 0} (xs : List X) (ys : List Y) (i : ℕ) → i < length xs → i < length ys → i < length (zip xs ys)
zip-long xs ys i within inside = rw (length-zip xs ys) (omega arith)

pub take-zip-all : {X Y : Type 0} (xs : List X) (ys : List Y) (i : ℕ) → length ys ≤ i → take i (zip xs ys) ≡ zip xs ys
take-zip-all xs ys i past = take_all i (zip xs ys) (rw (length-zip xs ys) (omega arith))
