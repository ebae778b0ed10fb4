-- Roots in parts.
use Rattle.std.proofs.Common.{◌≡◌, inl, inr, ⊎_elim, List, ◌++◌, sym, subst, arith}
use Rattle.node_forest.specs.Label.{Node}
use Rattle.node_forest.proofs.Members.{occurs_split, occurs_left, occurs_right}
use Rattle.node_forest.proofs.Counts.{times_append}
use Rattle.count_core.specs.SoundBelow.{Parts}

pub parts_last : (k c : List Node) → Parts (k ++ c) c k
parts_last k c = record {
  count = λ n. let a = times_append n k c in omega arith;
  out = λ x h. ⊎_elim (λ l. inr l) (λ r. inl r) (occurs_split x k c h);
  left = λ x h. occurs_right x k c h;
  right = λ x h. occurs_left x k c h;
}

pub parts_around : (p q h c k : List Node) → Parts h c k → Parts (p ++ (h ++ q)) c (p ++ (k ++ q))
parts_around p q h c k s = record {
  count = λ n. let a = times_append n p (h ++ q) in let b = times_append n h q in let d = times_append n p (k ++ q) in let e = times_append n k q in let f = s.count n in omega arith;
  out = λ x i. ⊎_elim (λ l. inr (occurs_left x p (k ++ q) l))
      (λ r. ⊎_elim
      (λ m. ⊎_elim (λ y. inl y) (λ y. inr (occurs_right x p (k ++ q) (occurs_left x k q y))) (s.out x m))
      (λ m. inr (occurs_right x p (k ++ q) (occurs_right x k q m)))
      (occurs_split x h q r))
      (occurs_split x p (h ++ q) i);
  left = λ x i. occurs_right x p (h ++ q) (occurs_left x h q (s.left x i));
  right = λ x i. ⊎_elim (λ l. occurs_left x p (h ++ q) l)
      (λ r. occurs_right x p (h ++ q) (⊎_elim (λ m. occurs_left x h q (s.right x m)) (λ m. occurs_right x h q m) (occurs_split x k q r)))
      (occurs_split x p (k ++ q) i);
}

-- the parts of equal roots
pub parts_along : {a b c d : List Node} (k : List Node) → a ≡ b → c ≡ d → Parts b k d → Parts a k c
parts_along k e f p = subst (λ (z : List Node × List Node). Parts z.0 k z.1) (λ i. (sym e i, sym f i)) p
