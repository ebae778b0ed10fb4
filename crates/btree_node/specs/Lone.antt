-- What looks down a path tell of its nodes, and leave a worker with.
use Rattle.std.specs.Prelude.{ℕ, ◌≡◌, ◌≢◌, List, [], ◌∷◌, ◌++◌, take}
use Rattle.node_forest.specs.Label.{Node, number}
use Rattle.node_forest.specs.Paths.{at_depth, numbers_on}
use Rattle.pool_rule.specs.Notes.{Look}
use Rattle.pool_rule.specs.Pools.{Member}
use Rattle.pool_rule.specs.Rules.{Among}
use Rattle.pool_rule.specs.Views.{View}

-- so many nodes from the top of a path have lone numbers
abbrev pub AreLoneTo : ℕ → Node → List ℕ → View → Type 0
AreLoneTo n root path v = (m : ℕ) → Among m (take n (numbers_on root path)) → Member m v.lone

-- the words of so many nodes were found 1
abbrev pub found_lone_to : ℕ → Node → List ℕ → View → View
found_lone_to n root path v = record v { lone = v.lone ++ take n (numbers_on root path) }

-- a look at the node at a depth that found this word
abbrev pub look_at : ℕ → Node → List ℕ → ℕ → View → Look
look_at n root path found v = record { number = number (at_depth n root path); found = found; shares = v.shares }

-- The words of so many nodes were found 1, and then that of the next another than 1, which was noted.
pub record IsFoundShared (n : ℕ) (root : Node) (path : List ℕ) (v w : View) : Type 0 where
  pub found : ℕ
  pub more : found ≢ 1
  pub view : w ≡ record v { lone = v.lone ++ take n (numbers_on root path); looks = v.looks ++ look_at n root path found v ∷ [] }
