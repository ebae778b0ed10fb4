-- The form of the count rule that its proofs use: the sum goes over all numbers below a bound, those that don't occur adding 0.
use Rattle.std.specs.Prelude.{◌≡◌, ℕ, zero, suc, ◌+◌, ◌<◌, ◌⊎◌, List}
use Rattle.node_forest.specs.Forest.{nodes_of}
use Rattle.node_forest.specs.Label.{Node}
use Rattle.node_forest.specs.Members.{Occurs}
use Rattle.node_forest.specs.Counts.{times, first, edges_in}
use Rattle.count_core.specs.Holders.{Agreed, Fitting}

abbrev pub sum_below : ℕ → (ℕ → ℕ) → ℕ
sum_below zero f = 0
sum_below (suc k) f = f k + sum_below k f

-- how often n is an edge of the first node with the number q
abbrev pub edge : List Node → ℕ → ℕ → ℕ
edge roots n q = edges_in n (first q (nodes_of roots))

abbrev pub holders_below : ℕ → List Node → ℕ → ℕ
holders_below size roots n = times n roots + sum_below size (edge roots n)

-- the trees agree, fit below `size`, and each word is the count of its number's holders
pub record IsSoundBelow (size : ℕ) (word : ℕ → ℕ) (roots : List Node) : Type 0 where
  pub agreed : Agreed roots
  pub counted : (n : ℕ) → n < size → word n ≡ holders_below size roots n
  pub fitting : Fitting size roots

-- the roots are these and those, in some order
pub record Parts (roots these those : List Node) : Type 0 where
  pub count : (n : ℕ) → times n roots ≡ times n these + times n those
  pub out : (x : Node) → Occurs x roots → Occurs x these ⊎ Occurs x those
  pub left : (x : Node) → Occurs x these → Occurs x roots
  pub right : (x : Node) → Occurs x those → Occurs x roots
