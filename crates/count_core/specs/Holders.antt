-- How many hold each number in the trees of a list of roots, and when trees agree.
use Rattle.std.specs.Prelude.{◌≡◌, ℕ, ◌+◌, ◌<◌, Bool, true, false, eqb, List, [], ◌∷◌}
use Rattle.node_forest.specs.Forest.{children, nodes_of}
use Rattle.node_forest.specs.Label.{Node, number}
use Rattle.node_forest.specs.Members.{Occurs}
use Rattle.node_forest.specs.Counts.{times}

abbrev pub skip_if : Bool → Node → List Node → List Node
skip_if true t ts = ts
skip_if false t ts = t ∷ ts

-- the nodes that don't have the number n
abbrev pub others : ℕ → List Node → List Node
others n [] = []
others n (t ∷ ts) = skip_if (eqb n (number t)) t (others n ts)

-- of each different number the first node
abbrev pub firsts : List Node → List Node
firsts [] = []
firsts (t ∷ ts) = t ∷ others (number t) (firsts ts)

-- how often n is an edge of the nodes
abbrev pub edges_of : ℕ → List Node → ℕ
edges_of n [] = 0
edges_of n (t ∷ ts) = times n (children t) + edges_of n ts

-- The direct holds of n, and over all different numbers in the trees, how often n is an edge of it.
-- The edges of a number are read from the first node that has it: the roots in order, each tree in preorder.
abbrev pub holders : List Node → ℕ → ℕ
holders roots n = times n roots + edges_of n (firsts (nodes_of roots))

-- two nodes in the trees with one number are equal
abbrev pub Agreed : List Node → Type 0
Agreed roots = (t u : Node) → Occurs t roots → Occurs u roots → number t ≡ number u → t ≡ u

-- for every number below `size` its word is the number of its holders
abbrev pub Counted : ℕ → (ℕ → ℕ) → List Node → Type 0
Counted size word roots = (n : ℕ) → n < size → word n ≡ holders roots n

-- each number in the trees is below `size`
abbrev pub Fitting : ℕ → List Node → Type 0
Fitting size roots = (t : Node) → Occurs t roots → number t < size
