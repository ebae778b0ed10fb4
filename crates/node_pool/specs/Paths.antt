-- Paths down a tree whose nodes but the last are lone.
use Rattle.std.specs.Prelude.{ℕ, ◌≡◌, ◌≢◌, ◌<◌, List, [], ◌∷◌, ◌++◌, length, slice_index_or, Bool, true, false}
use Rattle.node_forest.specs.Forest.{children}
use Rattle.node_forest.specs.Label.{Node, number}
use Rattle.pool_rule.specs.Pools.{Member}
use Rattle.pool_rule.specs.Views.{View}

abbrev pub child_at : Node → ℕ → Node
child_at t place = slice_index_or (children t) place t

-- the node at the end of a path
abbrev pub node_at : Node → List ℕ → Node
node_at t [] = t
node_at t (place ∷ places) = node_at (child_at t place) places

-- each place is one of an edge, and the nodes above the path's end are lone
abbrev pub IsPathIn : List ℕ → Node → List ℕ → Type 0
IsPathIn lone t [] = Unit {0}
IsPathIn lone t (place ∷ places) = Member (number t) lone × (place < length (children t)) × IsPathIn lone (child_at t place) places

-- the node's number is lone now
abbrev pub found_lone : Node → View → View
found_lone t v = record v { lone = v.lone ++ number t ∷ [] }

-- its word was found to be another than 1, and this was noted
pub record IsSharedLook (t : Node) (v w : View) : Type 0 where
  pub found : ℕ
  pub more : found ≢ 1
  pub view : w ≡ record v { looks = v.looks ++ record { number = number t; found = found; shares = v.shares } ∷ [] }

abbrev pub IsLooked : Bool → Node → View → View → Type 0
IsLooked true t v w = w ≡ found_lone t v
IsLooked false t v w = IsSharedLook t v w
