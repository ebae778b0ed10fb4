-- Trees that grew, and which trees of the old one they kept.
use Rattle.std.specs.Prelude.{ℕ, ◌+◌, ◌≤◌, List, [], All}
use Rattle.node_forest.specs.Label.{Node}
use Rattle.pool_rule.specs.Trades.{IsWithin}
use Rattle.pool_rule.specs.Views.{View}
use Rattle.btree_node.specs.Made.{nodes_in, nodes_of_all, IsMadeFrom}

-- e is new but for the trees in `kept`, which are all of t but at most l nodes
pub record IsGrownFrom (l : ℕ) (t : Node) (kept : List Node) (v w : View) (e : Node) : Type 0 where
  pub made : IsMadeFrom [] kept v w e
  pub within : All (λ s. IsWithin s t) kept
  pub most : nodes_in t ≤ nodes_of_all kept + l
