-- The workers that a pool's first token gives.
use Rattle.std.proofs.Common.{◌≡◌, ℕ, zero, suc, ◌+◌, ◌-◌, ◌*◌, ◌^◌, ◌<◌, ◌≤◌, List, [], ◌∷◌, ◌++◌, length, map, drop, refl, sym, ap, ◌∙◌, arith}
use Rattle.std.proofs.lemmas.List.{map-append}
use Rattle.std.proofs.Math.Numerals.{add-one}
use Rattle.atomic_table.specs.Table.{Splits}
use Rattle.pool_rule.specs.Pools.{Terms, Kept}
use Rattle.pool_rule.specs.Views.{View, first_view, narrower, part_of}
use Rattle.pool_rule.proofs.Calls.{splits}
use Rattle.node_pool.specs.Boxes.{below}
use Rattle.node_pool.specs.Starts.{rest_after, worker_at}
use Rattle.node_pool.specs.Tokens.{IsWorkerView}

abbrev nothing : {A : Type 0} → List A
nothing = []

drop_none : {A : Type 0} (k : ℕ) → drop k (nothing {A = A}) ≡ nothing {A = A}
drop_none zero = refl
drop_none (suc k) = refl

drop_more : {A : Type 0} (n m : ℕ) (xs : List A) → drop n (drop m xs) ≡ drop (m + n) xs
drop_more n zero xs = ap (λ (k : ℕ). drop k xs) (omega arith)
drop_more {A} n (suc m) [] = drop_none {A = A} n ∙ sym (drop_none {A = A} (suc m + n))
drop_more n (suc m) (x ∷ xs) = drop_more n m xs ∙ ap (λ (k : ℕ). drop k (x ∷ xs)) (let e : suc (m + n) ≡ suc m + n = omega arith in e)

module _ (numbers most workers slots : ℕ) where
  pub hired_left : (i : ℕ) → narrower 256 16 (rest_after numbers most workers slots i) ≡ rest_after numbers most workers slots (i + 1)
  hired_left i =
      let room : 2 ^ 24 - i * 256 - 256 ≡ 2 ^ 24 - (i + 1) * 256 = omega arith in
      let spare : workers - i - 1 ≡ workers - (i + 1) = omega arith in
      let few : i * 16 + 16 ≡ (i + 1) * 16 = omega arith in
      let unused : drop 16 (drop (i * 16) (below slots)) ≡ drop ((i + 1) * 16) (below slots) = drop_more 16 (i * 16) (below slots) ∙ ap (λ (k : ℕ). drop k (below slots)) few in
      λ q. first_view (room q) numbers most (spare q) (unused q)

  pub hired_right : (i : ℕ) → part_of 256 16 (rest_after numbers most workers slots i) ≡ worker_at numbers most slots i
  hired_right i = refl

  pub hire_at : {S : Type 0} (p : Terms S) (id i : ℕ) (x : View) → x ≡ rest_after numbers most workers slots i → i + 1 < workers → workers ≤ 64 → Splits {S = S} (Kept p) id x (narrower 256 16 x) (part_of 256 16 x)
  hire_at p id i x is more all =
      splits p id 256 16 x
      (omega (arith, ap (λ (v : View). length v.holds) is, ap (λ (v : View). v.room) is, more, all))
      (omega (arith, ap (λ (v : View). v.spare) is, more))
      (omega (arith, ap (λ (v : View). v.spare) is, ap (λ (v : View). v.over) is, more))

  pub hired_view : (i : ℕ) → most ≤ 2 ^ 18 → IsWorkerView numbers most (worker_at numbers most slots i)
  hired_view i few = record {
    sane = record { size = refl; roomy = omega arith; narrow = λ t o. absurd o; limited = few; fewer = omega arith };
    size = refl;
    limit = refl;
    fits = λ t o. absurd o;
    room = omega arith;
    spare = refl;
    over = refl;
    passes = refl;
    away = refl;
    joined = refl;
  }

  pub last_view : (i : ℕ) → most ≤ 2 ^ 18 → i + 1 ≡ workers → workers ≤ 64 → IsWorkerView numbers most (rest_after numbers most workers slots i)
  last_view i few all low = record {
    sane = record { size = refl; roomy = omega arith; narrow = λ t o. absurd o; limited = few; fewer = omega arith };
    size = refl;
    limit = refl;
    fits = λ t o. absurd o;
    room = omega (arith, all, low);
    spare = omega (arith, all);
    over = refl;
    passes = refl;
    away = refl;
    joined = refl;
  }

  pub hired_more : (i : ℕ) (ws vs : List View) (v : View) → ws ≡ map (worker_at numbers most slots) (below i) → v ≡ worker_at numbers most slots i → vs ≡ ws ++ v ∷ [] → vs ≡ map (worker_at numbers most slots) (below (i + 1))
  hired_more i ws vs v ws_are v_is grown =
      grown ∙ ((λ q. ws_are q ++ v_is q ∷ []) ∙ (sym (map-append (worker_at numbers most slots) (below i) (i ∷ [])) ∙ ap (λ (k : ℕ). map (worker_at numbers most slots) (below k)) (sym (add-one i))))
