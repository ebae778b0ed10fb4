-- Paths down a tree, each the places of edges from a node down, things at depths of a path, and the numbers and edges that lie on and beside it.
use Rattle.std.specs.Prelude.{ℕ, zero, suc, ◌≡◌, ◌<◌, ◌≤◌, List, [], ◌∷◌, ◌++◌, length, take, drop, slice_index_or}
use Rattle.node_forest.specs.declared.kind.Kind.TheVariants.{Branch}
use Rattle.node_forest.specs.Forest.{children}
use Rattle.node_forest.specs.Limits.{length_limit}
use Rattle.node_forest.specs.Label.{Node, number}

-- the child at a place
abbrev pub child_of : Node → ℕ → Node
child_of t p = slice_index_or (children t) p t

-- the node at a depth of the path
abbrev pub at_depth : ℕ → Node → List ℕ → Node
at_depth zero t path = t
at_depth (suc d) t [] = t
at_depth (suc d) t (p ∷ ps) = at_depth d (child_of t p) ps

-- the places lead down from the node, over Branches
abbrev pub Leads : Node → List ℕ → Type 0
Leads t [] = Unit {0}
Leads t (p ∷ ps) = (t.0.kind ≡ Branch) × (p < length (children t)) × Leads (child_of t p) ps

-- the nodes of the path below have lengths below the limit
abbrev pub AreShort : Node → List ℕ → Type 0
AreShort t [] = Unit {0}
AreShort t (p ∷ ps) = ((child_of t p).0.length < length_limit) × AreShort (child_of t p) ps

-- nothing lies deeper than what stands before it, and the first no deeper than this
abbrev pub NeverDeeper : {C : Type 0} → ℕ → List (ℕ × C) → Type 0
NeverDeeper depth [] = Unit {0}
NeverDeeper depth (c ∷ cs) = (c.0 ≤ depth) × NeverDeeper c.0 cs

-- the numbers of the path's nodes, from the top down
abbrev pub numbers_on : Node → List ℕ → List ℕ
numbers_on t [] = number t ∷ []
numbers_on t (p ∷ ps) = number t ∷ numbers_on (child_of t p) ps

-- the list without the place
abbrev pub all_but : ℕ → List Node → List Node
all_but p ts = take p ts ++ drop (suc p) ts

-- the edges of the path's nodes that aren't on it
abbrev pub beside : Node → List ℕ → List Node
beside t [] = children t
beside t (p ∷ ps) = all_but p (children t) ++ beside (child_of t p) ps
