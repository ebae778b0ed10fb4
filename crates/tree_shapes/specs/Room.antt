-- How many data edges a tree takes in at a side before it needs a new root, and what it is then.
use Rattle.std.specs.Prelude.{ℕ, zero, suc, ◌≡◌, ◌+◌, ◌-◌, ◌*◌, ◌<◌, ◌≤◌, unwrap_or}
use Rattle.std.specs.Prelude.{List, [], ◌∷◌, length, fold, slice_index_or}
use Rattle.node_forest.specs.declared.side.Side.{Side}
use Rattle.node_forest.specs.Forest.{children}
use Rattle.tree_shapes.specs.Shape.{Shape, level, branch_over, IsNode}
use Rattle.tree_shapes.specs.Growth.{outer, outermost, wrapped, grown, no_meeting}

-- how many data edges stand under a node of this level that is full, with all below it
unfoldable pub most_under : ℕ → ℕ
most_under zero = 1
most_under (suc l) = 6 * most_under l

-- how many more a node of this level takes in at a side
unfoldable pub room_at : Side → ℕ → Shape → ℕ
room_at side zero m = 0
room_at side (suc l) m = room_at side l (outermost side m) + (6 - length (children m)) * most_under l

-- a data edge taken in by a node of this level
abbrev pub taken_in : Side → ℕ → Shape → Shape → Shape
taken_in side l m x = unwrap_or (grown side no_meeting l m x) m

-- data edges taken in one after another
abbrev pub filled : Side → ℕ → Shape → List Shape → Shape
filled side l m xs = fold (λ s x. taken_in side l s x) m xs

-- a node of this level with no edges
abbrev pub bare : ℕ → Shape
bare zero = branch_over 0 []
bare (suc l) = branch_over l []

-- a node of this level over data edges alone
abbrev pub packed : Side → ℕ → List Shape → Shape
packed side l [] = bare l
packed side l (x ∷ xs) = filled side l (wrapped l x) xs

-- a Branch of these edges of level l, or of none, with data edges taken in
abbrev pub laid : Side → ℕ → List Shape → List Shape → Shape
laid side l [] xs = packed side (suc l) xs
laid side l (e ∷ es) xs = filled side (suc l) (branch_over l (e ∷ es)) xs

-- how many data edges more the outermost of these edges takes in; there is none: none
abbrev pub room_outside : Side → ℕ → List Shape → ℕ
room_outside side l [] = 0
room_outside side l (e ∷ es) = room_at side l (slice_index_or (e ∷ es) (outer side (length (e ∷ es))) e)

-- under j Branches of one edge, and no fewer, the tree takes in n data edges
pub record IsLift (side : Side) (t : Shape) (n j : ℕ) : Type 0 where
  pub room : n ≤ room_at side (level t + j) (wrapped j t)
  pub least : (i : ℕ) → j ≡ suc i → room_at side (level t + i) (wrapped i t) < n

-- a root that is well formed but for its height
pub record IsRooted (s : Shape) : Type 0 where
  pub node : IsNode (level s) s
  pub wide : 0 < level s → 2 ≤ length (children s)
