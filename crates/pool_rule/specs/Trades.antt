-- Direct holds as lists in which only the number of occurrences counts, for those who use the pool.
use Rattle.std.specs.Prelude.{ℕ, ◌≡◌, ◌+◌, ◌≤◌, List, [], ◌∷◌, sum_by, length, All, Contains}
use Rattle.node_forest.specs.Forest.{children}
use Rattle.node_forest.specs.Label.{Node}

-- `new` is `old` with some holds used up and others gained: under every weight both sides weigh the same
pub record Trades (old spent gained new : List Node) : Type 0 where
  pub weighs : (f : Node → ℕ) → sum_by f new + sum_by f spent ≡ sum_by f old + sum_by f gained
  pub count : length new + length spent ≡ length old + length gained

-- the same holds, in whatever order
abbrev pub SameHolds : List Node → List Node → Type 0
SameHolds old new = Trades old [] [] new

-- each of the edges is a direct hold, as often as it is listed
pub record HasHolds (holds es : List Node) : Type 0 where
  pub weighs : (f : Node → ℕ) → sum_by f es ≤ sum_by f holds

-- e is a node of the tree at root
pub data IsWithin : Node → Node → Type 0 where
  itself : {e : Node} → IsWithin e e
  below : {e m root : Node} → Contains (children root) m → IsWithin e m → IsWithin e root

-- e stands in a tree that is held
pub record Stands (holds : List Node) (e : Node) : Type 0 where
  pub root : Node
  pub held : HasHolds holds (root ∷ [])
  pub within : IsWithin e root

-- the edges are direct holds beside others, in whose trees each of them stands
pub record AreSpare (holds es : List Node) : Type 0 where
  pub rest : List Node
  pub traded : Trades rest [] es holds
  pub stand : All (Stands rest) es
