-- What a worker is left with where all that nobody else holds below an edge has gone.
use Rattle.std.specs.Prelude.{ℕ, ◌≡◌, List, ◌∷◌, ◌++◌, All}
use Rattle.node_forest.specs.Label.{Node, number}
use Rattle.pool_rule.specs.Notes.{lone_but}
use Rattle.pool_rule.specs.Trades.{IsWithin}
use Rattle.pool_rule.specs.Views.{View}

-- a node of the tree has the number
abbrev pub IsNumberIn : Node → ℕ → Type 0
IsNumberIn e n = (t : Node) × IsWithin t e × (number t ≡ n)

-- The edge was left, and then some nodes of its tree, and the numbers of some of them were returned. None of their numbers is lone then;
-- what the worker knows else is as before, but for its direct holds.
pub record IsFinished (e : Node) (v w : View) : Type 0 where
  pub later : List Node
  pub within : All (λ t. IsWithin t e) later
  pub back : List ℕ
  pub numbers : All (IsNumberIn e) back
  pub view : w ≡ record v { holds = w.holds; returned = v.returned ++ back; lone = lone_but (e ∷ later) v.lone }
