-- Paths down a tree, and when no other token can reach their nodes.
use Rattle.std.specs.Prelude.{◌≡◌, ℕ, List, [], ◌∷◌, slice_get, Option, Some, None}
use Rattle.node_forest.specs.Forest.{children}
use Rattle.node_forest.specs.Label.{Node, number}
use Rattle.node_forest.specs.Members.{In}
use Rattle.count_core.specs.Steps.{State, word_at}

-- the nodes from one down by the places of edges, each in the children of the node before; a place that isn't there ends the path
abbrev pub path_from : Option Node → List ℕ → List Node
path_from None places = []
path_from (Some t) [] = t ∷ []
path_from (Some t) (p ∷ ps) = t ∷ path_from (slice_get (children t) p) ps

-- the word of each of the nodes is 1
abbrev pub IsLone : State → List Node → Type 0
IsLone w nodes = (x : Node) → In x nodes → word_at w (number x) ≡ 1
