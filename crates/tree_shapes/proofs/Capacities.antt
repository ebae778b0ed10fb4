-- The first capacity that holds so many bytes is the least.
use Rattle.std.proofs.Common.{◌≡◌, ℕ, zero, suc, ◌<◌, ◌≤◌, Bool, List, [], ◌∷◌, length, slice_index_or, refl, sym, ap, subst, arith}
use Rattle.std.specs.Prelude.{if◌then◌else◌, Contains}
use Rattle.std.proofs.lemmas.Bool.{lt-ltb, le-ltb}
use mathlib.Core.Logic.{dite}
use native.Mathlib.Decide.{dec_lt}
use Rattle.tree_shapes.specs.Shape.{capacities}
use Rattle.tree_shapes.specs.Capacity.{first_with, capacity_for, IsLeast}

pub passed_over : (n c : ℕ) (cs : List ℕ) → c < n → first_with n (c ∷ cs) ≡ first_with n cs
passed_over n c cs h = ap (λ (b : Bool). if b then first_with n cs else c) (lt-ltb c n h)

pub found_first : (n c : ℕ) (cs : List ℕ) → n ≤ c → first_with n (c ∷ cs) ≡ c
found_first n c cs h = ap (λ (b : Bool). if b then first_with n cs else c) (le-ltb c n h)

-- each is less than the next
abbrev pub Ascend : List ℕ → Type 0
Ascend [] = Unit {0}
Ascend (c ∷ cs) = ((d : ℕ) → Contains cs d → c ≤ d) × Ascend cs

-- it holds the bytes, and is at most any other that does
pub record IsFirst (n c : ℕ) (cs : List ℕ) : Type 0 where
  pub one : Contains cs c
  pub wide : n ≤ c
  pub least : (d : ℕ) → Contains cs d → n ≤ d → c ≤ d

contains_later : (c d : ℕ) (cs : List ℕ) → Contains cs d → Contains (c ∷ cs) d
contains_later c d cs has = let lt : suc has.0 < length (c ∷ cs) = omega (arith, has.1) in (suc has.0, lt, has.2)

least_in : (n c x d k : ℕ) (cs : List ℕ) → n ≤ d → k < length (c ∷ cs) → slice_index_or (c ∷ cs) k d ≡ d → (n ≤ c → x ≤ c) → ((e : ℕ) → Contains cs e → n ≤ e → x ≤ e) → x ≤ d
least_in n c x d zero cs h lt is here later = let e : c ≡ d = is in let w : n ≤ c = omega arith in let l = here w in omega (arith, l)
least_in n c x d (suc k) cs h lt is here later = let l : k < length cs = omega arith in later d (k, l, is) h

first_of_more : (n c d k : ℕ) (cs : List ℕ) → c < n → n ≤ d → k < length (c ∷ cs) → slice_index_or (c ∷ cs) k d ≡ d → Contains cs d
first_of_more n c d zero cs less h lt is = let e : c ≡ d = is in absurd (omega arith)
first_of_more n c d (suc k) cs less h lt is = let l : k < length cs = omega arith in (k, l, is)

pub first_is : (n d : ℕ) (cs : List ℕ) → Ascend cs → Contains cs d → n ≤ d → IsFirst n (first_with n cs) cs
first_is n d [] up has h = let none : has.0 < 0 = has.1 in absurd (omega arith)
first_is n d (c ∷ cs) up has h = dite (dec_lt c n)
    (λ less.
    let later = first_is n d cs up.1 (first_of_more n c d has.0 cs less h has.1 has.2) h in
    subst (λ (x : ℕ). IsFirst n x (c ∷ cs)) (sym (passed_over n c cs less)) (record {
      one = contains_later c (first_with n cs) cs later.one;
      wide = later.wide;
      least = λ e has_e he. least_in n c (first_with n cs) e has_e.0 cs he has_e.1 has_e.2 (λ w. absurd (omega arith)) later.least;
    }))
    (λ other.
    let wide : n ≤ c = omega arith in
    let lt : 0 < length (c ∷ cs) = omega arith in
    subst (λ (x : ℕ). IsFirst n x (c ∷ cs)) (sym (found_first n c cs wide)) (record {
      one = (0, lt, refl);
      wide = wide;
      least = λ e has_e he. least_in n c c e has_e.0 cs he has_e.1 has_e.2 (λ w. omega arith) (λ e has_e he. up.0 e has_e);
    }))

-- the first of a list of numbers that lie above c
all_above : (c a : ℕ) (cs : List ℕ) → c ≤ a → ((d : ℕ) → Contains cs d → c ≤ d) → (d : ℕ) → Contains (a ∷ cs) d → c ≤ d
all_above c a cs h rest d has = least_in 0 a c d has.0 cs (omega arith) has.1 has.2 (λ w. h) (λ e has_e w. rest e has_e)

none_in : (c d : ℕ) → Contains [] d → c ≤ d
none_in c d has = let none : has.0 < 0 = has.1 in absurd (omega arith)

above_next : (c a : ℕ) (cs : List ℕ) → c ≤ a → ((d : ℕ) → Contains cs d → a ≤ d) → (d : ℕ) → Contains (a ∷ cs) d → c ≤ d
above_next c a cs h rest = all_above c a cs h (λ d has. let l = rest d has in omega (arith, l))

pub ascending : Ascend capacities
ascending =
    let x7 = none_in 4083 in
    let x6 = above_next 2035 4083 [] (omega arith) x7 in
    let x5 = above_next 1011 2035 (4083 ∷ []) (omega arith) x6 in
    let x4 = above_next 499 1011 (2035 ∷ 4083 ∷ []) (omega arith) x5 in
    let x3 = above_next 243 499 (1011 ∷ 2035 ∷ 4083 ∷ []) (omega arith) x4 in
    let x2 = above_next 115 243 (499 ∷ 1011 ∷ 2035 ∷ 4083 ∷ []) (omega arith) x3 in
    let x1 = above_next 51 115 (243 ∷ 499 ∷ 1011 ∷ 2035 ∷ 4083 ∷ []) (omega arith) x2 in
    let x0 = above_next 19 51 (115 ∷ 243 ∷ 499 ∷ 1011 ∷ 2035 ∷ 4083 ∷ []) (omega arith) x1 in
    (x0, (x1, (x2, (x3, (x4, (x5, (x6, (x7, tt))))))))

pub capacity_is_least : (n : ℕ) → n ≤ 4083 → IsLeast n (capacity_for n)
unfolding capacity_for
capacity_is_least n h =
    let lt : 7 < length capacities = omega arith in
    let is = first_is n 4083 capacities ascending (7, lt, refl) h in
    record { one = is.one; wide = is.wide; least = is.least }
