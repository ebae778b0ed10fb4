-- How the shape of a tree changes where a node is added at a side.
use Rattle.std.specs.Prelude.{ℕ, zero, suc, ◌+◌, ◌-◌, nat_lt, if◌then◌else◌, Option, Some, None, unwrap_or}
use Rattle.std.specs.Prelude.{List, [], ◌∷◌, ◌++◌, length, fold, slice_index_or, slice_set}
use Rattle.node_forest.specs.declared.side.Side.{Side}
use Rattle.node_forest.specs.declared.side.Side.TheVariants.{Front, Back}
use Rattle.node_forest.specs.Forest.{children}
use Rattle.tree_shapes.specs.Shape.{Shape, level, branch_over}

-- one more at a side of a list
abbrev pub placed : {X : Type 0} → Side → List X → X → List X
placed Front xs x = x ∷ xs
placed Back xs x = xs ++ x ∷ []

-- more at a side of a list
abbrev pub beside : {X : Type 0} → Side → List X → List X → List X
beside Front xs more = more ++ xs
beside Back xs more = xs ++ more

-- where the outermost of n edges stands
abbrev pub outer : Side → ℕ → ℕ
outer Front n = 0
outer Back n = n - 1

abbrev pub outermost : Side → Shape → Shape
outermost side m = slice_index_or (children m) (outer side (length (children m))) m

-- m with other edges
abbrev pub with_edges : Shape → List Shape → Shape
with_edges m es = branch_over (level m - 1) es

-- a node under so many Branches of one edge
unfoldable pub wrapped : ℕ → Shape → Shape
wrapped zero x = x
wrapped (suc d) x = branch_over (level x + d) (wrapped d x ∷ [])

-- m with one more edge, where it has fewer than 6
abbrev pub with_edge : Side → Shape → Shape → Option Shape
with_edge side m x = if nat_lt (length (children m)) 6 then Some (with_edges m (placed side (children m) x)) else None

abbrev pub grown_from : Side → Shape → Shape → Option Shape → Option Shape
grown_from side m x (Some c) = Some (with_edges m (slice_set (children m) (outer side (length (children m))) c))
grown_from side m x None = with_edge side m x

-- A tree with x added at a side. x belongs d levels below m, where `meet` says whether the node there takes it in. Else the
-- lowest node on the way that has fewer than 6 edges gets it, under Branches of one edge as far as needed. None has: None.
unfoldable pub grown : Side → (Shape → Option Shape) → ℕ → Shape → Shape → Option Shape
grown side meet zero m x = meet m
grown side meet (suc d) m x = grown_from side m (wrapped d x) (grown side meet d (outermost side m) x)

-- the same, where a full tree comes under a new root beside x
abbrev pub added_by : (Shape → Option Shape) → Side → Shape → Shape → Shape
added_by meet side t x =
    let d = level t - level x in
    unwrap_or (grown side meet d t x) (branch_over (level t) (placed side (t ∷ []) (wrapped d x)))

abbrev pub no_meeting : Shape → Option Shape
no_meeting _ = None

-- a node added to a tree that is no lower
abbrev pub added : Side → Shape → Shape → Shape
added side t x = added_by no_meeting side t x

-- nodes added one after another
abbrev pub with_all : Side → Shape → List Shape → Shape
with_all side t xs = fold (λ s x. added side s x) t xs
