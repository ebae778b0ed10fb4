-- What is left of lists of direct holds that went with all that nobody else holds below them.
use Rattle.std.specs.Prelude.{ℕ, List, Contains, All}
use Rattle.node_forest.specs.Label.{Node}
use Rattle.pool_rule.specs.Gains.{no_gain, Gained}
use Rattle.pool_rule.specs.Views.{View}
use Rattle.node_pool.specs.Finishes.{IsNumberIn}

-- a node of one of the trees has the number
abbrev pub IsNumberUnder : List Node → ℕ → Type 0
IsNumberUnder es n = (e : Node) × Contains es e × IsNumberIn e n

-- numbers of nodes in these trees were returned, and no other list grew
pub record AreFinished (es : List Node) (v w : View) : Type 0 where
  pub back : List ℕ
  pub numbers : All (IsNumberUnder es) back
  pub gained : Gained (record no_gain { returned = back }) v w
