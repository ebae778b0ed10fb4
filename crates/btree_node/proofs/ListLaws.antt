-- Lists with more at a side.
use Rattle.std.proofs.Common.{ℕ, ◌≡◌, ◌+◌, List, [], ◌∷◌, ◌++◌, length, sum_by, map, refl, sym, ap, ◌∙◌, append-nil, append_assoc, arith}
use Rattle.std.specs.List.{All, flat_map}
use Rattle.std.specs.Prelude.{Contains}
use Rattle.std.proofs.lemmas.List.{length-append, map-append}
use Rattle.std.proofs.lemmas.List.Sums.{sum_by-append}
use Rattle.std.proofs.lemmas.List.Elements.{All-append, All-cons, All-nil, Contains-get_or}
use Rattle.std.proofs.lemmas.List.Concat.{flat_map-append}
use Rattle.node_forest.specs.declared.side.Side.{Side}
use Rattle.node_forest.specs.declared.side.Side.TheVariants.{Front, Back}
use Rattle.tree_shapes.specs.Growth.{placed, beside}

pub beside-one : {X : Type 0} (side : Side) (es : List X) (x : X) → beside side es (x ∷ []) ≡ placed side es x
beside-one Front es x = refl
beside-one Back es x = refl

pub beside-assoc : {X : Type 0} (side : Side) (a b c : List X) → beside side (beside side a b) c ≡ beside side a (beside side b c)
beside-assoc Front a b c = sym (append_assoc c b a)
beside-assoc Back a b c = append_assoc a b c

pub length-beside : {X : Type 0} (side : Side) (a b : List X) → length (beside side a b) ≡ length a + length b
length-beside Front a b = length-append b a ∙ omega arith
length-beside Back a b = length-append a b

pub sum-beside : {X : Type 0} (side : Side) (f : X → ℕ) (a b : List X) → sum_by f (beside side a b) ≡ sum_by f a + sum_by f b
sum-beside Front f a b = sum_by-append f b a ∙ omega arith
sum-beside Back f a b = sum_by-append f a b

pub All-beside : {X : Type 0} (side : Side) (P : X → Type 0) (a b : List X) → All P a → All P b → All P (beside side a b)
All-beside Front P a b p q = All-append P b a q p
All-beside Back P a b p q = All-append P a b p q

pub map-placed : {X Y : Type 0} (f : X → Y) (side : Side) (es : List X) (x : X) → map f (placed side es x) ≡ placed side (map f es) (f x)
map-placed f Front es x = refl
map-placed f Back es x = map-append f es (x ∷ [])

pub map-beside : {X Y : Type 0} (f : X → Y) (side : Side) (a b : List X) → map f (beside side a b) ≡ beside side (map f a) (map f b)
map-beside f Front a b = map-append f b a
map-beside f Back a b = map-append f a b

pub flat_map-placed : {X Y : Type 0} (f : X → List Y) (side : Side) (es : List X) (x : X) → flat_map f (placed side es x) ≡ beside side (flat_map f es) (f x)
flat_map-placed f Front es x = refl
flat_map-placed f Back es x = flat_map-append f es (x ∷ []) ∙ ap (λ ys. flat_map f es ++ ys) (append-nil (f x))

pub flat_map-beside : {X Y : Type 0} (f : X → List Y) (side : Side) (a b : List X) → flat_map f (beside side a b) ≡ beside side (flat_map f a) (flat_map f b)
flat_map-beside f Front a b = flat_map-append f b a
flat_map-beside f Back a b = flat_map-append f a b

-- each of a list's elements is contained in it
pub All-contains : {X : Type 0} (xs : List X) → All (Contains xs) xs
All-contains xs = λ k d lt. Contains-get_or xs k d lt

pub All-one : {X : Type 0} (P : X → Type 0) (x : X) → P x → All P (x ∷ [])
All-one P x p = All-cons P x [] p (All-nil P)

pub All-two : {X : Type 0} (P : X → Type 0) (x y : X) → P x → P y → All P (x ∷ y ∷ [])
All-two P x y p q = All-cons P x (y ∷ []) p (All-one P y q)
