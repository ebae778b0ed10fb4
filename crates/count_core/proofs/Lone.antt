-- A number whose word is 1, and whose one holder is here, occurs nowhere else.
use Rattle.std.proofs.Common.{◌≡◌, ℕ, zero, suc, ◌+◌, ◌<◌, ◌≤◌, ◌≢◌, ⊎_elim, List, refl, sym, ap, subst, arith}
use mathlib.Core.Logic.{dite}
use native.Mathlib.Decide.{ℕ_discrete}
use Rattle.node_forest.specs.Forest.{children}
use Rattle.node_forest.specs.Label.{Node, number}
use Rattle.node_forest.specs.Members.{In, Occurs}
use Rattle.node_forest.specs.Counts.{times, edges_in}
use Rattle.node_forest.proofs.Members.{parent, root_occurs}
use Rattle.node_forest.proofs.Counts.{times_pos}
use Rattle.count_core.specs.SoundBelow.{sum_below, edge, IsSoundBelow, Parts}
use Rattle.count_core.proofs.Sums.{at_le_sum}
use Rattle.count_core.proofs.Agreed.{first_agreed}

two_le_sum : (k i j : ℕ) (f : ℕ → ℕ) → i < k → j < k → i ≢ j → f i + f j ≤ sum_below k f
two_le_sum zero i j f a b ne = absurd (omega arith)
two_le_sum (suc k) i j f a b ne =
    dite (ℕ_discrete k i)
    (λ e. let x : f k ≡ f i = ap f e in let le = at_le_sum k j f (let ne' : i ≢ j = ne in omega arith) in omega arith)
    (λ n. dite (ℕ_discrete k j)
    (λ e. let x : f k ≡ f j = ap f e in let le = at_le_sum k i f (let n' : k ≢ i = n in omega arith) in omega arith)
    (λ m. let n' : k ≢ i = n in let m' : k ≢ j = m in let r = two_le_sum k i j f (omega arith) (omega arith) ne in omega arith))

module _ (size : ℕ) (word : ℕ → ℕ) (all mine others : List Node) (s : IsSoundBelow size word all) (p : Parts all mine others) where
  edge_pos : (q c : Node) → Occurs q all → In c (children q) → (n : ℕ) → number c ≡ n → 1 ≤ edge all n (number q)
  edge_pos q c o i n e = let f : edge all n (number q) ≡ times n (children q) = ap (edges_in n) (first_agreed (number q) q all s.agreed o refl) in
      let t = times_pos n c (children q) i e in omega arith

  -- a direct hold whose word is 1
  pub lone_root : (t : Node) → In t mine → word (number t) ≡ 1 → (x : Node) → Occurs x others → number x ≢ number t
  lone_root t here one x o e =
      let n : ℕ = number t in
      let c = s.counted n (s.fitting t (p.left t (root_occurs t mine here))) in
      let d = times_pos n t mine here refl in
      let m = p.count n in
      ⊎_elim
      (λ r. let u = times_pos n x others r e in omega arith)
      (λ q. let b = edge_pos q.0 x (p.right q.0 q.1) q.2 n e in let le = at_le_sum size (number q.0) (edge all n) (s.fitting q.0 (p.right q.0 q.1)) in omega arith)
      (parent x others o)

  -- an edge, whose word is 1, of a node that occurs nowhere else
  pub lone_child : (t c : Node) → Occurs t mine → ((x : Node) → Occurs x others → number x ≢ number t) → In c (children t) → word (number c) ≡ 1 → (x : Node) → Occurs x others → number x ≢ number c
  lone_child t c here lone child one x o e =
      let n : ℕ = number c in
      let above = p.left t here in
      let b = edge_pos t c above child n refl in
      let low = (s.fitting t above) in
      let wide = (s.fitting x (p.right x o)) in
      let k = s.counted n (subst (λ (z : ℕ). z < size) e wide) in
      let m = p.count n in
      ⊎_elim
      (λ r. let u = times_pos n x others r e in let le = at_le_sum size (number t) (edge all n) low in omega arith)
      (λ q. let d = edge_pos q.0 x (p.right q.0 q.1) q.2 n e in
      let le = two_le_sum size (number t) (number q.0) (edge all n) low (s.fitting q.0 (p.right q.0 q.1)) (λ z. lone q.0 q.1 (sym z)) in omega arith)
      (parent x others o)
