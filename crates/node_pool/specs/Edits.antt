-- Where a worker may change an edge in place.
use Rattle.std.specs.Prelude.{ℕ, ◌+◌, ◌≤◌, List, [], ◌∷◌, length}
use Rattle.node_forest.specs.Label.{Node}
use Rattle.node_forest.specs.Paths.{Leads, NeverDeeper}
use Rattle.node_forest.specs.Changes.{site}
use Rattle.node_edges.specs.declared.change.Change.{Change}
use Rattle.node_edges.specs.Changes.{FitEach}
use Rattle.pool_rule.specs.Trades.{HasHolds}
use Rattle.pool_rule.specs.Views.{View}
use Rattle.pool_rule.specs.EdgeMarks.{HoldsNew, all_new, changed_root}

-- The root is a direct hold, the edges that come are direct holds when they come, the places lead down over Branches, each change fits when
-- it is done, and the worker has at most 256 direct holds then.
pub record CanMark (root : Node) (path : List ℕ) (cs : List (ℕ × Change)) (v : View) : Type 0 where
  pub held : HasHolds v.holds (root ∷ [])
  pub new : HoldsNew (root ∷ []) cs (site root path []) v.holds
  pub leads : Leads root path
  pub order : NeverDeeper (length path) cs
  pub fits : FitEach cs (site root path [])
  pub room : length v.holds + length (changed_root root path cs).out ≤ 256 + length (all_new cs)
