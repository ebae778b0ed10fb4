-- Changes in place as a step of a token: where they are possible, and what they make of its holds.
use Rattle.std.specs.Prelude.{◌≡◌, ℕ, ◌<◌, ◌≤◌, List, [], ◌∷◌, length, Some}
use Rattle.atomic_table.specs.Table.{State, Me}
use Rattle.atomic_table.specs.Table as table
use Rattle.node_forest.specs.declared.kind.Kind.TheVariants.{External, Branch}
use Rattle.node_forest.specs.Forest.{children}
use Rattle.node_forest.specs.Label.{Node, number}
use Rattle.node_forest.specs.Members.{In, Occurs}
use Rattle.node_forest.specs.Paths.{Leads, NeverDeeper, numbers_on}
use Rattle.node_forest.specs.Changes.{site}
use Rattle.count_core.specs.Marks.{Change, FitEach, edited_holds}
use Rattle.count_core.specs.Views.{without}
use Rattle.pool_rule.specs.Views.{View, with_holds}
use Rattle.pool_rule.specs.Rules.{Among}
use Rattle.pool_rule.specs.Plays.{Told}
use Rattle.pool_rule.specs.Pools.{Member}

-- after the changes: the edges that came are no direct holds any more, those that went are, and the root stands last
abbrev pub marking : Node → List ℕ → List (ℕ × Change) → View → View
marking root path changes v = with_holds v (edited_holds (Some root) path changes (without (number root) v.holds))

-- the changes fit a direct hold and the other holds, each when it is done
pub record CanChange (root : Node) (path : List ℕ) (changes : List (ℕ × Change)) (v : View) : Type 0 where
  pub held : In root v.holds
  pub leads : Leads root path
  pub order : NeverDeeper (length path) changes
  pub fits : FitEach changes (site root path (without (number root) v.holds))
  pub room : length (marking root path changes v).holds ≤ v.room

-- each number on the path is a lone number of the token
abbrev pub IsLonePath : Node → List ℕ → View → Type 0
IsLonePath root path v = (n : ℕ) → Among n (numbers_on root path) → Member n v.lone

-- what the load of the root's word tells, with which the changes are done
abbrev pub marked : {S : Type 0} → Node → List ℕ → List (ℕ × Change) → table.Step S → Me S View → ℕ → Me S View → Type 0
marked root path changes st m found m' = Told (marking root path changes m.0) m m'

-- what changes leave of what occurs in the holds: no number comes, and the same externals occur
pub record KeepsNodes (old new : List Node) : Type 0 where
  pub numbers : (x : Node) → Occurs x new → (y : Node) × Occurs y old × (number y ≡ number x)
  pub externals : (x : Node) → x.0.kind ≡ External → Occurs x new → Occurs x old
  pub back : (x : Node) → x.0.kind ≡ External → Occurs x old → Occurs x new
