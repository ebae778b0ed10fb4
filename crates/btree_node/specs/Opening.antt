-- A Branch by its outermost edge and the others.
use Rattle.std.specs.Prelude.{ℕ, ◌≡◌, ◌-◌, ◌≤◌, List, length, take, drop, slice_index_or, All}
use Rattle.node_forest.specs.declared.side.Side.{Side}
use Rattle.node_forest.specs.declared.side.Side.TheVariants.{Front, Back}
use Rattle.node_forest.specs.Forest.{children}
use Rattle.node_forest.specs.Label.{Node}
use Rattle.node_edges.specs.Trees.{IsTreeAt}
use Rattle.tree_shapes.specs.Growth.{placed, outer}

-- a Branch's edges, which are of level l, but the outermost, and the outermost
pub record IsOutermost (side : Side) (l : ℕ) (e : Node) (siblings : List Node) (last : Node) : Type 0 where
  pub edges : children e ≡ placed side siblings last
  pub few : length siblings ≤ 5
  pub trees : All (IsTreeAt l) siblings
  pub last_tree : IsTreeAt l last

-- a node's outermost edge, and the others
abbrev pub last_of : Side → Node → Node
last_of side e = slice_index_or (children e) (outer side (length (children e))) e

abbrev pub others_in : Side → List Node → List Node
others_in Front es = drop 1 es
others_in Back es = take (length es - 1) es
