-- Bytes that go into the room of a tree's last flat, where nobody else holds the way down to it.
use Rattle.std.specs.Prelude.{ℕ, ◌≡◌, ◌≢◌, ◌⊎◌, ◌+◌, ◌<◌, ◌≤◌, List, ◌∷◌, ◌++◌, length, Option, Some, None}
use Rattle.node_forest.specs.declared.kind.Kind.TheVariants.{Sum}
use Rattle.node_forest.specs.declared.side.Side.TheVariants.{Back}
use Rattle.node_forest.specs.Label.{Node}
use Rattle.pool_rule.specs.Gains.{no_gain, Gained}
use Rattle.pool_rule.specs.Notes.{Look}
use Rattle.pool_rule.specs.Trades.{SameHolds}
use Rattle.pool_rule.specs.Views.{View}
use Rattle.flat_nodes.specs.Behind.{path_behind, room_behind, filled_behind}
use Rattle.btree_node.specs.Lone.{look_at}
use Rattle.cord_value.specs.Grown.{IsGrown}
use Rattle.cord_value.specs.Refusals.{IsBalanced}
use Rattle.cord_value.specs.Views.{CordView}
use Rattle.cord_value.specs.declared.refusals.CordError.{CordError}

-- the tree's last flat has room for so many bytes, no Sum stands at the root, and a cord may have so many in all
pub record HasRoomBehind (n : ℕ) (root : Node) : Type 0 where
  pub some : 0 < n
  pub bare : root.0.kind ≢ Sum
  pub fits : n ≤ room_behind root
  pub short : root.0.length + n ≤ 2147483647

abbrev pub CanFill : ℕ → Option Node → Type 0
CanFill n None = ⊥
CanFill n (Some root) = HasRoomBehind n root

-- The bytes stand behind those of the last flat: all numbers and all other edges stay, and no number was taken, no pass made, no share
-- made, and no look answered no.
pub record IsFilledBehind (bytes : List ℕ) (root : Node) (new : Option Node) (v w : View) : Type 0 where
  pub tree : new ≡ Some (filled_behind root bytes)
  pub holds : SameHolds v.holds w.holds
  pub gained : Gained no_gain v w

-- A look of the call, made before its first share, found another word than 1 at a node on the way to the last data edge.
pub record WasShared (root : Node) (v w : View) : Type 0 where
  pub depth : ℕ
  pub low : depth ≤ length (path_behind root)
  pub found : ℕ
  pub more : found ≢ 1
  pub later : List Look
  pub looks : w.looks ≡ v.looks ++ look_at depth root (path_behind root) found v ∷ later

abbrev pub IsShared : Option Node → View → View → Type 0
IsShared None v w = ⊥
IsShared (Some root) v w = WasShared root v w

-- the bytes fill the last flat, or the way down to it was shared
abbrev pub IsPlaced : List ℕ → Option Node → Option Node → View → View → Type 0
IsPlaced bytes None new v w = ⊥
IsPlaced bytes (Some root) new v w = IsFilledBehind bytes root new v w ⊎ WasShared root v w

-- ---- what looks leave of what a call promises else
-- looks were made, and no other step
pub record HasLooked (v m : View) : Type 0 where
  pub holds : SameHolds v.holds m.holds
  pub looks : List Look
  pub gained : Gained (record no_gain { looks = looks }) v m

-- n bytes were added behind, after looks
pub record IsGrownAfter (limit n : ℕ) (old new : CordView) (v w : View) : Type 0 where
  pub looked : View
  pub first : HasLooked v looked
  pub grown : IsGrown limit Back n old new looked w

-- a refusal, after looks
pub record IsBalancedAfter (limit : ℕ) (x : CordError) (v w : View) : Type 0 where
  pub looked : View
  pub first : HasLooked v looked
  pub balanced : IsBalanced limit x looked w
