-- What holds of the pool's table between any two steps: its words, its word of live passes and the holds of its tokens are a world in which each
-- word is the number of its holders.
use Rattle.std.specs.Prelude.{◌≡◌, ◌≢◌, ◌⊎◌, ℕ, ◌+◌, ◌<◌, ◌≤◌, List, [], ◌∷◌, length, map, take, slice_index}
use mathlib.Core.Option.{some}
use lib.ListN.{get_elem?}
use Rattle.atomic_table.specs.Table.{State}
use Rattle.node_forest.specs.Forest.{children}
use Rattle.node_forest.specs.Label.{Node}
use Rattle.node_forest.specs.Members.{Occurs}
use Rattle.count_core.specs.Steps as core
use Rattle.count_core.specs.Worlds.{IsSound}
use Rattle.node_forest.specs.Limits.{most_edges}
use Rattle.pool_rule.specs.Limits.{most_holds, most_passes, most_workers}
use Rattle.pool_rule.specs.Views.{View}

abbrev pub holds_of : View → List Node
holds_of v = v.holds

-- the world of a table with so many numbers: their words, then the word of live passes
abbrev pub world : {S : Type 0} → ℕ → State S View → core.State
world k s = record { words = take k s.words; live = slice_index s.words k; views = map holds_of s.views }

-- sums over all tokens
abbrev pub rooms : List View → ℕ
rooms [] = 0
rooms (v ∷ vs) = v.room + rooms vs

abbrev pub passes : List View → ℕ
passes [] = 0
passes (v ∷ vs) = v.passes + passes vs

abbrev pub overs : List View → ℕ
overs [] = 0
overs (v ∷ vs) = v.over + overs vs

abbrev pub spares : List View → ℕ
spares [] = 0
spares (v ∷ vs) = v.spare + spares vs

-- no node in the trees has more edges than a node may have
abbrev pub Narrow : List Node → Type 0
Narrow trees = (t : Node) → Occurs t trees → length (children t) ≤ most_edges

-- a token knows how many numbers there are, has room for its holds, holds no node with more edges than a node may have, and has no more passes that
-- found the limit reached than it may
pub record IsSane (k : ℕ) (v : View) : Type 0 where
  pub size : v.size ≡ k
  pub roomy : length v.holds ≤ v.room
  pub narrow : Narrow v.holds
  pub limited : v.limit ≤ most_passes
  pub fewer : v.over ≤ v.spare

abbrev pub AreSane : ℕ → List View → Type 0
AreSane k [] = Unit {0}
AreSane k (v ∷ vs) = IsSane k v × AreSane k vs

-- the number is in the list
abbrev pub Among : ℕ → List ℕ → Type 0
Among n [] = ⊥
Among n (m ∷ ms) = (n ≡ m) ⊎ Among n ms

-- some token ever took the number
pub record IsTaken (n : ℕ) (views : List View) : Type 0 where
  pub id : ℕ
  pub view : View
  pub at : get_elem? views id ≡ some view
  pub among : Among n view.taken

-- a take of some token found the number in use
pub record IsFull (n : ℕ) (views : List View) : Type 0 where
  pub id : ℕ
  pub view : View
  pub at : get_elem? views id ≡ some view
  pub among : Among n view.full

-- the rule of a table with so many numbers; a number that is in use, or was ever found in use, was taken by some token
pub record Ruled {S : Type 0} (k : ℕ) (s : State S View) : Type 0 where
  pub width : length s.words ≡ k + 1
  pub sound : IsSound (world k s)
  pub sane : AreSane k s.views
  -- all room is shared out among the tokens; each live pass brings room for one hold
  pub rooms : rooms s.views ≡ most_holds + slice_index s.words k
  -- each live pass is some token's
  pub live : slice_index s.words k ≡ passes s.views
  -- passes above the limit are to be taken back, and there are few of these
  pub low : slice_index s.words k ≤ most_passes + overs s.views
  pub spares : spares s.views ≤ most_workers
  pub used : (n : ℕ) → n < k → slice_index s.words n ≢ 0 → IsTaken n s.views
  pub full : (n : ℕ) → IsFull n s.views → IsTaken n s.views
