-- How two trees are merged at a side.
use Rattle.std.specs.Prelude.{◌≡◌, ◌+◌, ◌≤◌, max, nat_eq, nat_le, if◌then◌else◌, Option, Some, None, length}
use Rattle.node_forest.specs.declared.side.Side.{Side}
use Rattle.node_forest.specs.declared.side.Side.TheVariants.{Front, Back}
use Rattle.node_forest.specs.Forest.{children}
use Rattle.tree_shapes.specs.Growth.{beside, with_edges, added_by}
use Rattle.tree_shapes.specs.Room.{IsRooted}
use Rattle.tree_shapes.specs.Shape.{Shape, level, length_of}

abbrev pub across : Side → Side
across Front = Back
across Back = Front

-- a Branch with all edges of another of its height at a side, where they are at most 6 together
abbrev pub merged : Side → Shape → Shape → Option Shape
merged side x m =
    if nat_le (length (children m) + length (children x)) 6
    then Some (with_edges m (beside side (children m) (children x)))
    else None

-- a data edge has no edges to give
abbrev pub meeting : Side → Shape → Shape → Option Shape
meeting side x m = if nat_eq (level x) 0 then None else merged side x m

-- The tree x comes at a side of the tree t. The lower of the two is added to the higher one, on the outermost way, to the node of
-- its own height there; where their edges are too many it is added as a node.
abbrev pub joined : Side → Shape → Shape → Shape
joined side t x =
    if nat_le (level x) (level t)
    then added_by (meeting side x) side t x
    else added_by (meeting (across side) t) (across side) x t

-- a tree of both lengths, at most one level above the higher of the two
pub record Joins (t x c : Shape) : Type 0 where
  pub root : IsRooted c
  pub all : length_of c ≡ length_of t + length_of x
  pub no_lower : max (level t) (level x) ≤ level c
  pub rises : level c ≤ max (level t) (level x) + 1
