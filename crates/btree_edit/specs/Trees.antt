-- Trees over the flats of a text, at either side.
use Rattle.std.specs.Prelude.{ℕ, zero, suc, min, ◌≡◌, ◌-◌, ◌*◌, ◌<◌, ◌≤◌, List, [], ◌∷◌, ◌++◌, length, map, All, Contains}
use Rattle.std.specs.List.{flat_map}
use Rattle.node_forest.specs.declared.side.Side.{Side}
use Rattle.node_forest.specs.Forest.{children}
use Rattle.node_forest.specs.Label.{Node}
use Rattle.node_edges.specs.Text.{text}
use Rattle.node_edges.specs.Trees.{shape_of, IsTreeAt}
use Rattle.tree_shapes.specs.Flats.{piece_count, flats}
use Rattle.tree_shapes.specs.Growth.{beside, wrapped}
use Rattle.tree_shapes.specs.Pieces.{IsParted}
use Rattle.tree_shapes.specs.Room.{most_under, room_at, filled, laid, room_outside}
use Rattle.tree_shapes.specs.Shape.{Shape, level, branch_over}
use Rattle.btree_node.specs.Opening.{last_of, others_in}

-- a text that is cut in two where so many pieces have room: those bytes come first at the side
pub record IsCut (side : Side) (bytes : List ℕ) (most : ℕ) (near far : List ℕ) : Type 0 where
  pub parted : IsParted side (length bytes) most (length near)
  pub whole : bytes ≡ beside side near far
  pub far_long : length far ≡ length bytes - length near

-- e is well formed and of this level, with this shape and this text
pub record IsTreeOf (l : ℕ) (s : Shape) (bytes : List ℕ) (e : Node) : Type 0 where
  pub tree : IsTreeAt l e
  pub shape : shape_of e ≡ s
  pub text : text e ≡ bytes

-- e is the tree of this level, shape and text that has taken in the bytes at a side
abbrev pub HasTakenIn : Side → ℕ → Shape → List ℕ → List ℕ → Node → Type 0
HasTakenIn side l s old bytes e = IsTreeOf l (filled side l s (flats side (length bytes))) (beside side old bytes) e

-- a Branch of the edges before, of level l, that takes in the bytes is one of the edges es
abbrev pub AreLaid : Side → ℕ → List Node → List ℕ → List Node → Type 0
AreLaid side l before bytes es = laid side l (map shape_of before) (flats side (length bytes)) ≡ branch_over l (map shape_of es)

-- all but the rest of the bytes stand in edges of level l, beside those that there were
pub record IsPartway (side : Side) (l : ℕ) (before es : List Node) (bytes rest : List ℕ) : Type 0 where
  pub trees : All (IsTreeAt l) es
  pub few : length es ≤ 6
  pub less : length rest ≤ length bytes
  pub laid : laid side l (map shape_of es) (flats side (length rest)) ≡ laid side l (map shape_of before) (flats side (length bytes))
  pub full : 0 < length rest → room_outside side l (map shape_of es) ≡ 0
  pub left : piece_count (length rest) ≤ (6 - length es) * most_under l
  pub text : beside side (flat_map text es) rest ≡ beside side (flat_map text before) bytes
  pub kept : All (Contains es) before

-- e is a Branch of these edges, and of trees over the bytes beside them
pub record IsLaidOver (side : Side) (l : ℕ) (before : List Node) (bytes : List ℕ) (e : Node) : Type 0 where
  pub tree : IsTreeAt (suc l) e
  pub shape : shape_of e ≡ laid side l (map shape_of before) (flats side (length bytes))
  pub text : text e ≡ beside side (flat_map text before) bytes

-- how many pieces more a node of this level over the tree alone takes in
abbrev pub lifted_room : Side → Shape → ℕ → ℕ → ℕ
lifted_room side s base l = room_at side l (wrapped (l - base) s)

-- at this level, and at none below, the tree takes in n pieces
pub record IsLevelFor (side : Side) (s : Shape) (base n l : ℕ) : Type 0 where
  pub above : base ≤ l
  pub low : l ≤ 12
  pub fits : n ≤ lifted_room side s base l
  pub least : (k : ℕ) → l ≡ suc k → base ≤ k → lifted_room side s base k < n

-- the trees that are kept as they are where so many pieces come beside a tree of this level that has room for them
unfoldable pub kept : Side → ℕ → Node → ℕ → List Node
kept side zero e n = e ∷ []
kept side (suc l) e zero = e ∷ []
kept side (suc l) e (suc n) = others_in side (children e) ++ kept side l (last_of side e) (min (suc n) (room_at side l (shape_of (last_of side e))))

-- how many pieces come under the old root
abbrev pub pieces_under : Side → ℕ → Node → ℕ → ℕ
pieces_under side l e n = min n (room_at side l (shape_of e))

-- the trees of an old root that are kept where so many pieces come beside it
abbrev pub kept_under : Side → ℕ → Node → ℕ → List Node
kept_under side l e n = kept side l e (pieces_under side l e n)

-- the trees that are kept where n bytes come beside a root
abbrev pub kept_beside : Side → Node → ℕ → List Node
kept_beside side e n = kept_under side (level (shape_of e)) e (piece_count n)
