-- Flats and the trees over the flats of a text, at either side.
use Rattle.std.specs.Prelude.{ℕ, ◌-◌, List, [], ◌∷◌, length, map}
use Rattle.node_forest.specs.declared.kind.Kind.TheVariants.{Flat}
use Rattle.node_forest.specs.declared.side.Side.{Side}
use Rattle.node_forest.specs.declared.side.Side.TheVariants.{Back}
use Rattle.node_forest.specs.Forest.{empty}
use Rattle.tree_shapes.specs.Capacity.{capacity_for}
use Rattle.tree_shapes.specs.Growth.{with_all}
use Rattle.tree_shapes.specs.Pieces.{pieces, in_turn}
use Rattle.tree_shapes.specs.Room.{bare}
use Rattle.tree_shapes.specs.Shape.{Shape}

-- a new flat of so many bytes
abbrev pub flat_shape : ℕ → Shape
flat_shape n = (record { kind = Flat; length = n; more = capacity_for n - n }, empty)

abbrev pub piece_count : ℕ → ℕ
piece_count n = length (pieces n)

-- the flats of n bytes, in the order in which they are added at a side
abbrev pub flats : Side → ℕ → List Shape
flats side n = map flat_shape (in_turn side (pieces n))

-- a tree that begins with its first data edge as root
abbrev pub built : List Shape → Shape
built [] = bare 0
built (x ∷ xs) = with_all Back x xs

-- a new tree of n bytes
abbrev pub new_shape : ℕ → Shape
new_shape n = built (flats Back n)

-- a tree with n bytes added at a side, cut into pieces from the left
abbrev pub with_bytes : Side → Shape → ℕ → Shape
with_bytes side t n = with_all side t (flats side n)
