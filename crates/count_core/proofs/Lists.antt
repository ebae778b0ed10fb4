-- Lists cut at an index.
use Rattle.std.proofs.Common.{◌≡◌, ℕ, zero, suc, ◌+◌, ◌<◌, ◌≤◌, List, [], ◌∷◌, ◌++◌, length, take, drop, get_or, set, refl, sym, ◌∙◌, ap, arith, add-one}
use Rattle.std.proofs.lemmas.List.{set-set, set-get_or}
use Rattle.node_forest.specs.Forest.{trees, forest}
use Rattle.node_forest.specs.Label.{Node}
use Rattle.node_forest.proofs.Maps.{trees-forest}

module _ {A : Type 0} where
  item_dropped : (xs : List A) (i : ℕ) (x : A) → i < length xs → x ≡ get_or xs i x → drop i xs ≡ x ∷ drop (suc i) xs
  item_dropped [] i x l e = absurd (omega arith)
  item_dropped (y ∷ ys) zero x l e = λ j. sym e j ∷ ys
  item_dropped (y ∷ ys) (suc i) x l e = item_dropped ys i x (omega arith) e

  -- from an index on there is the item at it, and what follows
  pub drop_item : (xs : List A) (i : ℕ) (x : A) → i < length xs → x ≡ get_or xs i x → drop i xs ≡ x ∷ drop (i + 1) xs
  drop_item xs i x l e = item_dropped xs i x l e ∙ ap (λ n. x ∷ drop n xs) (sym (add-one i))

  item_taken : (xs : List A) (i : ℕ) (x : A) → i < length xs → x ≡ get_or xs i x → take (suc i) xs ≡ take i xs ++ x ∷ []
  item_taken [] i x l e = absurd (omega arith)
  item_taken (y ∷ ys) zero x l e = λ j. sym e j ∷ []
  item_taken (y ∷ ys) (suc i) x l e = ap (λ zs. y ∷ zs) (item_taken ys i x (omega arith) e)

  -- up to and with an index there are those before it and the item at it
  pub take_item : (xs : List A) (i : ℕ) (x : A) → i < length xs → x ≡ get_or xs i x → take (i + 1) xs ≡ take i xs ++ x ∷ []
  take_item xs i x l e = ap (λ n. take n xs) (add-one i) ∙ item_taken xs i x l e

  -- two names of the item at an index
  pub item_same : (xs : List A) (i : ℕ) (x y : A) → i < length xs → x ≡ get_or xs i x → y ≡ get_or xs i y → x ≡ y
  item_same [] i x y l e f = absurd (omega arith)
  item_same (z ∷ zs) zero x y l e f = e ∙ sym f
  item_same (z ∷ zs) (suc i) x y l e f = item_same zs i x y (omega arith) e f

  -- inside the list the default is of no account
  pub default_same : (xs : List A) (i : ℕ) (a b : A) → i < length xs → get_or xs i a ≡ get_or xs i b
  default_same [] i a b l = absurd (omega arith)
  default_same (x ∷ xs) zero a b l = refl
  default_same (x ∷ xs) (suc i) a b l = default_same xs i a b (omega arith)

  -- a list about the item at an index
  pub item_between : (xs : List A) (i : ℕ) (d : A) → i < length xs → xs ≡ take i xs ++ get_or xs i d ∷ drop (suc i) xs
  item_between [] i d l = absurd (omega arith)
  item_between (x ∷ xs) zero d l = refl
  item_between (x ∷ xs) (suc i) d l = ap (λ ys. x ∷ ys) (item_between xs i d (omega arith))

  -- two writes that put back what was there
  pub set_back : (xs : List A) (i j : ℕ) (n a b : A) → a ≡ get_or (set xs i n) j a → b ≡ get_or xs i b → set (set (set xs i n) j a) i b ≡ xs
  set_back xs i j n a b e f =
      ap (λ ys. set ys i b) (ap (set (set xs i n) j) e ∙ set-get_or (set xs i n) j a)
      ∙ (set-set xs i n b ∙ (ap (set xs i) f ∙ set-get_or xs i b))

  -- a write before the last
  pub set-last : (xs : List A) (i : ℕ) (x last : A) → i < length xs → set (xs ++ last ∷ []) i x ≡ set xs i x ++ last ∷ []
  set-last [] i x last l = absurd (omega arith)
  set-last (y ∷ ys) zero x last l = refl
  set-last (y ∷ ys) (suc i) x last l = ap (λ zs. y ∷ zs) (set-last ys i x last (omega arith))

  pub get_past : (xs : List A) (i : ℕ) (d : A) → length xs ≤ i → get_or xs i d ≡ d
  get_past [] i d l = refl
  get_past (x ∷ xs) zero d l = absurd (omega arith)
  get_past (x ∷ xs) (suc i) d l = get_past xs i d (omega arith)

  pub take_whole : (xs : List A) (n : ℕ) → length xs ≤ n → take n xs ≡ xs
  take_whole [] zero l = refl
  take_whole [] (suc n) l = refl
  take_whole (x ∷ xs) zero l = absurd (omega arith)
  take_whole (x ∷ xs) (suc n) l = ap (λ ys. x ∷ ys) (take_whole xs n (omega arith))

  pub drop_whole : (xs : List A) (n : ℕ) → length xs ≤ n → drop n xs ≡ []
  drop_whole [] zero l = refl
  drop_whole [] (suc n) l = refl
  drop_whole (x ∷ xs) zero l = absurd (omega arith)
  drop_whole (x ∷ xs) (suc n) l = drop_whole xs n (omega arith)

pub forest_same : (xs ys : List Node) → forest xs ≡ forest ys → xs ≡ ys
forest_same xs ys e = sym (trees-forest xs) ∙ (ap trees e ∙ trees-forest ys)
