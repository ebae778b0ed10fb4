-- How often a number stands in a list of nodes, and which node with it comes first.
use Rattle.std.specs.Prelude.{ℕ, ◌+◌, Bool, true, false, eqb, List, [], ◌∷◌, Option, Some, None}
use Rattle.node_forest.specs.Forest.{children}
use Rattle.node_forest.specs.Label.{Node, number}

abbrev pub one_if : Bool → ℕ
one_if true = 1
one_if false = 0

-- 1 where the node's number is n, else 0
abbrev pub is : ℕ → Node → ℕ
is n t = one_if (eqb n (number t))

-- how many of the nodes have the number n
abbrev pub times : ℕ → List Node → ℕ
times n [] = 0
times n (t ∷ ts) = is n t + times n ts

abbrev pub some_if : Bool → Node → Option Node → Option Node
some_if true t rest = Some t
some_if false t rest = rest

-- the first node with the number n
abbrev pub first : ℕ → List Node → Option Node
first n [] = None
first n (t ∷ ts) = some_if (eqb n (number t)) t (first n ts)

-- how often n is an edge of the node
abbrev pub edges_in : ℕ → Option Node → ℕ
edges_in n None = 0
edges_in n (Some t) = times n (children t)
