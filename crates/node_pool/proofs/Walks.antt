-- Paths down a tree, one edge at a time.
use Rattle.std.proofs.Common.{◌≡◌, Bool, true, false, eqb, ◌++◌, ℕ, zero, suc, inr, ◌+◌, ◌<◌, List, [], ◌∷◌, length, drop, get_or, refl, sym, ap, subst, ◌∙◌, arith, add-one}
use Rattle.std.specs.Prelude.{if◌then◌else◌}
use Rattle.std.proofs.lemmas.List.{get_or_default}
use Rattle.node_forest.specs.Forest.{children}
use Rattle.node_forest.specs.Label.{Node, number}
use Rattle.count_core.proofs.Places.{in_item}
use Rattle.pool_rule.specs.Pools.{IsReached}
use Rattle.pool_rule.specs.Views.{View, looking}
use Rattle.pool_rule.proofs.Calls.{reached_occurs}
use Rattle.node_pool.specs.Paths.{child_at, node_at, IsPathIn}

drop-next : (xs : List ℕ) (i : ℕ) → i < length xs → drop i xs ≡ get_or xs i 0 ∷ drop (suc i) xs
drop-next [] i l = absurd (omega (arith, l))
drop-next (x ∷ xs) zero l = refl
drop-next (x ∷ xs) (suc i) l = drop-next xs i (omega (arith, l))

-- how far a walk is
pub record IsAt (v : View) (root : Node) (path : List ℕ) (t : Node) (i : ℕ) : Type 0 where
  pub end : node_at t (drop i path) ≡ node_at root path
  pub down : IsPathIn v.lone t (drop i path)
  pub reached : IsReached t v

pub walk_on : (v : View) (root : Node) (path : List ℕ) (t c : Node) (i p : ℕ) → i < length path → p ≡ get_or path i 0 → c ≡ child_at t p → IsAt v root path t i → IsAt v root path c (i + 1)
walk_on v root path t c i p low place child at =
    let next : drop i path ≡ p ∷ drop (i + 1) path = drop-next path i low ∙ (λ q. sym place q ∷ drop (sym (add-one i) q) path) in
    let steps : IsPathIn v.lone t (p ∷ drop (i + 1) path) = subst (IsPathIn v.lone t) next at.down in
    record {
      end = ap (λ (z : Node). node_at z (drop (i + 1) path)) child ∙ (ap (node_at t) (sym next) ∙ at.end);
      down = subst (λ (z : Node). IsPathIn v.lone z (drop (i + 1) path)) (sym child) steps.2;
      reached = inr (t, reached_occurs t v at.reached, steps.0, in_item (children t) p c steps.1 (child ∙ get_or_default (children t) p t c steps.1));
    }

pub next_place : (v : View) (root : Node) (path : List ℕ) (t : Node) (i p : ℕ) → i < length path → p ≡ get_or path i 0 → IsAt v root path t i → p < length (children t)
next_place v root path t i p low place at =
    let next : drop i path ≡ p ∷ drop (i + 1) path = drop-next path i low ∙ (λ q. sym place q ∷ drop (sym (add-one i) q) path) in
    let steps : IsPathIn v.lone t (p ∷ drop (i + 1) path) = subst (IsPathIn v.lone t) next at.down in
    steps.1

pub looking-holds : (n : ℕ) (t : Node) (v w : View) → w ≡ looking n t v → w.holds ≡ v.holds
looking-holds n t v w e = ap (λ (z : View). z.holds) e ∙ go (eqb n 1)
  where
    go : (b : Bool) → (if b then record v { lone = v.lone ++ number t ∷ [] } else record v { looks = v.looks ++ record { number = number t; found = n; shares = v.shares } ∷ [] }).holds ≡ v.holds
    go true = refl
    go false = refl
