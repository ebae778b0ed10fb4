-- The holders of a number, counted over the different numbers that occur, are those counted over all numbers below a bound.
use Rattle.std.proofs.Common.{◌≡◌, ℕ, zero, suc, ◌+◌, ◌<◌, ◌≢◌, inl, inr, Bool, true, false, eqb, eq-eqb, ne_eqb, List, [], ◌∷◌, refl, sym, ◌∙◌, ap, arith}
use mathlib.Core.Logic.{dite}
use native.Mathlib.Decide.{ℕ_discrete}
use Rattle.node_forest.specs.Forest.{children, nodes_of}
use Rattle.node_forest.specs.Label.{Node, number}
use Rattle.node_forest.specs.Members.{In}
use Rattle.node_forest.specs.Counts.{times, first, edges_in}
use Rattle.node_forest.proofs.Counts.{first_hit, first_miss}
use Rattle.count_core.specs.Holders.{skip_if, others, firsts, edges_of, holders, Fitting}
use Rattle.count_core.specs.SoundBelow.{sum_below, holders_below}
use Rattle.count_core.proofs.Sums.{sum_at}

others_hit : (m : ℕ) (t : Node) (ts : List Node) → number t ≡ m → others m (t ∷ ts) ≡ others m ts
others_hit m t ts e = ap (λ (b : Bool). skip_if b t (others m ts)) (eq-eqb m (number t) (sym e))

others_miss : (m : ℕ) (t : Node) (ts : List Node) → number t ≢ m → others m (t ∷ ts) ≡ t ∷ others m ts
others_miss m t ts e = ap (λ (b : Bool). skip_if b t (others m ts)) (ne_eqb m (number t) (λ x. e (sym x)))

abbrev amount_if : Bool → ℕ → ℕ
amount_if true x = x
amount_if false x = 0

module _ (n : ℕ) where
  -- how often n is an edge of the nodes with the number m
  abbrev at : ℕ → List Node → ℕ
  at m [] = 0
  at m (t ∷ ts) = amount_if (eqb m (number t)) (times n (children t)) + at m ts

  at_hit : (m : ℕ) (t : Node) (ts : List Node) → number t ≡ m → at m (t ∷ ts) ≡ times n (children t) + at m ts
  at_hit m t ts e = ap (λ (b : Bool). amount_if b (times n (children t)) + at m ts) (eq-eqb m (number t) (sym e))

  at_miss : (m : ℕ) (t : Node) (ts : List Node) → number t ≢ m → at m (t ∷ ts) ≡ at m ts
  at_miss m t ts e = let z = ap (λ (b : Bool). amount_if b (times n (children t))) (ne_eqb m (number t) (λ x. e (sym x))) in omega arith

  edges_of-others : (m : ℕ) (ts : List Node) → edges_of n ts ≡ edges_of n (others m ts) + at m ts
  edges_of-others m [] = omega arith
  edges_of-others m (t ∷ ts) =
      let r = edges_of-others m ts in
      dite (ℕ_discrete (number t) m)
      (λ e. let a = at_hit m t ts e in let o = ap (edges_of n) (others_hit m t ts e) in omega arith)
      (λ ne. let a = at_miss m t ts ne in let o = ap (edges_of n) (others_miss m t ts ne) in omega arith)

  at-others : (m k : ℕ) (ts : List Node) → k ≢ m → at m (others k ts) ≡ at m ts
  at-others m k [] ne = refl
  at-others m k (t ∷ ts) ne =
      let r = at-others m k ts ne in
      dite (ℕ_discrete (number t) k)
      (λ e. ap (at m) (others_hit k t ts e) ∙ (r ∙ sym (at_miss m t ts (λ f. ne (sym e ∙ f)))))
      (λ no. ap (at m) (others_miss k t ts no) ∙ ap (λ (x : ℕ). amount_if (eqb m (number t)) (times n (children t)) + x) r)

  at-others_same : (m : ℕ) (ts : List Node) → at m (others m ts) ≡ 0
  at-others_same m [] = refl
  at-others_same m (t ∷ ts) =
      dite (ℕ_discrete (number t) m)
      (λ e. ap (at m) (others_hit m t ts e) ∙ at-others_same m ts)
      (λ no. ap (at m) (others_miss m t ts no) ∙ (at_miss m t (others m ts) no ∙ at-others_same m ts))

  -- of each number the first node alone is kept
  at-firsts : (m : ℕ) (ts : List Node) → at m (firsts ts) ≡ edges_in n (first m ts)
  at-firsts m [] = refl
  at-firsts m (t ∷ ts) =
      dite (ℕ_discrete (number t) m)
      (λ e. let a = at_hit m t (others (number t) (firsts ts)) e in
      let z = ap (λ (k : ℕ). at k (others (number t) (firsts ts))) (sym e) ∙ at-others_same (number t) (firsts ts) in
      let f : edges_in n (first m (t ∷ ts)) ≡ times n (children t) = ap (edges_in n) (first_hit m t ts e) in omega arith)
      (λ ne. at_miss m t (others (number t) (firsts ts)) ne ∙ (at-others m (number t) (firsts ts) ne ∙ (at-firsts m ts ∙ ap (edges_in n) (sym (first_miss m t ts ne)))))

  sum_nothing : (k : ℕ) → sum_below k (λ q. edges_in n (first q [])) ≡ 0
  sum_nothing zero = refl
  sum_nothing (suc k) = let r = sum_nothing k in omega arith

  sum-firsts : (size : ℕ) (ts : List Node) → ((x : Node) → In x ts → number x < size) → sum_below size (λ q. edges_in n (first q ts)) ≡ edges_of n (firsts ts)
  sum-firsts size [] low = sum_nothing size
  sum-firsts size (t ∷ ts) low =
      let here = sum_at size (number t) (λ q. edges_in n (first q (t ∷ ts))) (λ q. edges_in n (first q ts)) (low t (inl refl)) (λ q l ne. ap (edges_in n) (first_miss q t ts (λ e. ne (sym e)))) in
      let rest = sum-firsts size ts (λ x h. low x (inr h)) in
      let split = edges_of-others (number t) (firsts ts) in
      let a = at-firsts (number t) ts in
      let f : edges_in n (first (number t) (t ∷ ts)) ≡ times n (children t) = ap (edges_in n) (first_hit (number t) t ts refl) in
      omega arith

pub holders_below-holders : (size : ℕ) (roots : List Node) (n : ℕ) → Fitting size roots → holders_below size roots n ≡ holders roots n
holders_below-holders size roots n fits = ap (λ (x : ℕ). times n roots + x) (sum-firsts n size (nodes_of roots) fits)
