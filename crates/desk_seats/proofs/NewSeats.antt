-- Passes that have done nothing yet, the last of which is taken.
use Rattle.std.proofs.Common.{◌≡◌, ◌≤◌, ◌<◌, ℕ, zero, suc, List, [], ◌∷◌, ◌++◌, map, false, refl, sym, ap, subst, arith}
use Rattle.std.specs.Prelude.{All}
use Rattle.std.proofs.lemmas.List.Elements.{All-append, All-cons, All-head, All-rest}
use Rattle.node_pool.specs.Boxes.{below}
use Rattle.record_rule.specs.declared.views.LogEntry.{LogEntry}
use Rattle.record_rule.specs.declared.views.TokenView.{TokenView}
use Rattle.record_rule.specs.Log.{made_of, is_walking}
use Rattle.record_rule.specs.Views.{new_token}
use Rattle.cordz_desk.specs.Seeing.{first_tokens}
use Rattle.desk_seats.specs.Fresh.{IsFresh}

module _ {X : Type 0} (Q : X → Type 0) where
  front_of : (ys : List X) (x : X) → All Q (ys ++ x ∷ []) → All Q ys
  front_of [] x a = λ k d less. absurd (omega (arith, less))
  front_of (y ∷ ys) x a = All-cons Q y ys (All-head Q y (ys ++ x ∷ []) a) (front_of ys x (All-rest Q y (ys ++ x ∷ []) _ refl a))

  last_of : (ys : List X) (x : X) → All Q (ys ++ x ∷ []) → Q x
  last_of [] x a = All-head Q x [] a
  last_of (y ∷ ys) x a = last_of ys x (All-rest Q y (ys ++ x ∷ []) _ refl a)

  pub all_front : (xs ys : List X) (x : X) → xs ≡ ys ++ x ∷ [] → All Q xs → All Q ys
  all_front xs ys x e a = front_of ys x (subst (All Q) e a)

  pub all_last : (xs ys : List X) (x : X) → xs ≡ ys ++ x ∷ [] → All Q xs → Q x
  all_last xs ys x e a = last_of ys x (subst (All Q) e a)

pub made_none : (p : TokenView) → IsFresh p → made_of p.own ≤ 0
made_none p f = subst (λ (z : List LogEntry). made_of z ≤ 0) (sym f.0) (omega arith)

pub walks_not : (p : TokenView) → IsFresh p → is_walking p.own ≡ false
walks_not p f = ap is_walking f.0

of_map : {X : Type 0} (t : X → TokenView) (xs : List X) → All IsFresh (map t xs) → All (λ x. IsFresh (t x)) xs
of_map t [] a = λ k d less. absurd (omega (arith, less))
of_map t (x ∷ xs) a = All-cons (λ x. IsFresh (t x)) x xs (All-head IsFresh (t x) (map t xs) a) (of_map t xs (All-rest IsFresh (t x) (map t xs) _ refl a))

fresh_map : (ks : List ℕ) → All (λ k. k < 16) ks → All IsFresh (map new_token ks)
fresh_map [] a = λ k d less. absurd (omega (arith, less))
fresh_map (k ∷ ks) a = All-cons IsFresh (new_token k) (map new_token ks) (refl, All-head (λ k. k < 16) k ks a) (fresh_map ks (All-rest (λ k. k < 16) k ks _ refl a))

fresh_below : (n : ℕ) → n ≤ 16 → All (λ k. k < 16) (below n)
fresh_below zero le = λ k d less. absurd (omega (arith, less))
fresh_below (suc n) le = All-append (λ k. k < 16) (below n) (n ∷ []) (fresh_below n (omega arith)) (All-cons (λ k. k < 16) n [] (omega arith) (λ k d less. absurd (omega (arith, less))))

-- the passes that a desk gives
pub fresh_all : {X : Type 0} (t : X → TokenView) (xs : List X) (n : ℕ) → n ≤ 16 → map t xs ≡ first_tokens n → All (λ x. IsFresh (t x)) xs
fresh_all t xs n le e = of_map t xs (subst (All IsFresh) (sym e) (fresh_map (below n) (fresh_below n le)))
