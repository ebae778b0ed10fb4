-- Lists read by place.
use Rattle.std.proofs.Common.{◌≡◌, ◌⊎◌, ℕ, zero, suc, ◌+◌, ◌<◌, ◌≤◌, List, [], ◌∷◌, ◌++◌, ◌||◌, eqb, Bool, true, false, length, take, get_or, sym, refl, ap, ◌∙◌, subst, inl, inr, ⊎_elim, arith, ne_eqb, eqb-true}
use Rattle.std.proofs.lemmas.List.{get_or_append_left}
use Rattle.std.proofs.Math.Seq.{get_or-append_seam}
use Rattle.cord_board.specs.Views.{has}
use Rattle.cord_seats.specs.Chairs.{below}

module _ {A : Type 0} where
  pub any_default : (xs : List A) (i : ℕ) (a b : A) → i < length xs → get_or xs i a ≡ get_or xs i b
  any_default [] i a b h = absurd (omega arith)
  any_default (x ∷ xs) zero a b h = refl
  any_default (x ∷ xs) (suc i) a b h = any_default xs i a b (omega arith)

  pub get_snoc : (xs : List A) (x d : A) (i n : ℕ) → length xs ≡ n → i < n + 1 → ((i < n) × (get_or (xs ++ x ∷ []) i d ≡ get_or xs i d)) ⊎ ((i ≡ n) × (get_or (xs ++ x ∷ []) i d ≡ x))
  get_snoc [] x d zero n e h = inr (omega arith, refl)
  get_snoc [] x d (suc i) n e h = absurd (omega arith)
  get_snoc (y ∷ xs) x d zero n e h = inl (omega arith, refl)
  get_snoc (y ∷ xs) x d (suc i) n e h = ⊎_elim (λ (t : (i < length xs) × (get_or (xs ++ x ∷ []) i d ≡ get_or xs i d)). let l = t.0 in inl (omega arith, t.1)) (λ (t : (i ≡ length xs) × (get_or (xs ++ x ∷ []) i d ≡ x)). let l = t.0 in inr (omega arith, t.1)) (get_snoc xs x d i (length xs) refl (omega arith))

  -- what holds of each element, after one more
  pub each_more : (Q : ℕ → A → Type 0) (xs : List A) (x : A) (n : ℕ) → length xs ≡ n → ((p : ℕ) (d : A) → p < n → Q p (get_or xs p d)) → Q n x → (p : ℕ) (d : A) → p < n + 1 → Q p (get_or (xs ++ x ∷ []) p d)
  each_more Q xs x n len each here p d h = ⊎_elim
      (λ (t : (p < n) × (get_or (xs ++ x ∷ []) p d ≡ get_or xs p d)). subst (Q p) (sym t.1) (each p d t.0))
      (λ (t : (p ≡ n) × (get_or (xs ++ x ∷ []) p d ≡ x)). subst (λ (z : ℕ × A). Q z.0 z.1) (λ i. (sym t.0 i, sym t.1 i)) here)
      (get_snoc xs x d p n len h)

  -- what holds of the elements of two lists side by side, after one more of each
  pub each_more_two : {B : Type 0} (Q : ℕ → A → B → Type 0) (xs : List A) (ys : List B) (x : A) (y : B) (n : ℕ) → length xs ≡ n → length ys ≡ n
      → ((p : ℕ) (d : A) (e : B) → p < n → Q p (get_or xs p d) (get_or ys p e)) → Q n x y
      → (p : ℕ) (d : A) (e : B) → p < n + 1 → Q p (get_or (xs ++ x ∷ []) p d) (get_or (ys ++ y ∷ []) p e)
  each_more_two {B} Q xs ys x y n len many each here p d e h = each_more (λ q u. (f : B) → Q q u (get_or (ys ++ y ∷ []) q f)) xs x n len
      (λ q u l f. subst (Q q (get_or xs q u)) (sym (get_or_append_left ys (y ∷ []) f q (omega arith))) (each q u f l))
      (λ f. subst (Q n x) (sym (ap (λ (z : ℕ). get_or (ys ++ y ∷ []) z f) (sym many) ∙ get_or-append_seam ys y [] f)) here)
      p d h e

  -- what holds of all that an iterator has left, after one
  pub each_less : (Q : ℕ → A → Type 0) (xs ys : List A) (x : A) (n m : ℕ) → xs ≡ x ∷ ys → ((k : ℕ) (d : A) → k < m + 1 → Q (n + k) (get_or xs k d)) → (k : ℕ) (d : A) → k < m → Q (n + 1 + k) (get_or ys k d)
  each_less Q xs ys x n m is each k d h =
      let here : n + suc k ≡ n + 1 + k = omega arith in
      subst (λ (z : ℕ). Q z (get_or ys k d)) here (subst (λ (z : List A). Q (n + suc k) (get_or z (suc k) d)) is (each (suc k) d (omega arith)))

  -- and of the first of them
  pub each_first : (Q : ℕ → A → Type 0) (xs ys : List A) (x : A) (n m : ℕ) → xs ≡ x ∷ ys → ((k : ℕ) (d : A) → k < m + 1 → Q (n + k) (get_or xs k d)) → Q n x
  each_first Q xs ys x n m is each =
      let here : n + 0 ≡ n = omega arith in
      subst (λ (z : ℕ). Q z x) here (subst (λ (z : List A). Q (n + 0) (get_or z 0 x)) is (each 0 x (omega arith)))

  pub element : (xs : List A) (i : ℕ) → i < length xs → A
  element [] i h = absurd (omega arith)
  element (x ∷ xs) i h = x

  pub whole_slice : (new rest : List A) (n : ℕ) → length new ≡ n → take n (new ++ rest) ≡ new
  whole_slice [] rest zero e = refl
  whole_slice [] rest (suc n) e = absurd (omega arith)
  whole_slice (x ∷ new) rest zero e = absurd (omega arith)
  whole_slice (x ∷ new) rest (suc n) e = ap (λ l. x ∷ l) (whole_slice new rest n (omega arith))

pub has_below : (n q : ℕ) → n ≤ q → has q (below n) ≡ false
has_below zero q h = refl
has_below (suc n) q h = ap (λ b. b || has q (below n)) (ne_eqb q n (λ e. omega arith)) ∙ has_below n q (omega arith)

pub is_below : (n q : ℕ) → has q (below n) ≡ true → q < n
is_below zero q e = absurd (cc)
is_below (suc n) q e = either_way (eqb q n) refl e (is_below n q)
  where
    either_way : (b : Bool) → eqb q n ≡ b → (b || has q (below n)) ≡ true → (has q (below n) ≡ true → q < n) → q < suc n
    either_way true is e rest = let s = eqb-true q n is in omega arith
    either_way false is e rest = let s = rest e in omega arith

-- one item more of a list that is gone over
pub take-more : {X : Type 0} (xs : List X) (i : ℕ) (x : X) → i < length xs → x ≡ get_or xs i x → take i xs ++ x ∷ [] ≡ take (i + 1) xs
take-more [] i x inside same = absurd (omega arith)
take-more (y ∷ xs) zero x inside same = ap (λ z. z ∷ []) same
take-more (y ∷ xs) (suc i) x inside same = ap (λ z. y ∷ z) (take-more xs i x (omega arith) same) ∙ ap (λ (n : ℕ). take n (y ∷ xs)) (sym (one_up i))
  where
    one_up : (n : ℕ) → suc n + 1 ≡ suc (n + 1)
    one_up n = omega arith
