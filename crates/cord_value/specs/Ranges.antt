-- What a cord of a range has of the tree that the range was taken of.
use Rattle.std.specs.Prelude.{ℕ, Option, Some, None, All}
use Rattle.node_forest.specs.Label.{Node}
use Rattle.tree_shapes.specs.Cords.{range_step, without_sum}
use Rattle.tree_shapes.specs.Shape.{Shape}
use Rattle.node_edges.specs.Roots.{below_sum}
use Rattle.node_edges.specs.Trees.{shape_of}
use Rattle.pool_rule.specs.Trades.{IsWithin}
use Rattle.btree_cut.specs.Cutting.{kept_within}
use Rattle.btree_cut.specs.Ranges.{ranges, ArePieces}
use Rattle.btree_node.specs.Adding.{data_edges}

-- the rules' shape of n bytes of a tree from a start on
abbrev pub range_shape : ℕ → ℕ → Node → Option Shape
range_shape start n e = range_step start n (without_sum (Some (shape_of e)))

-- Each data edge is one of those that the range touches, or a Part of one; and each node that the range holds whole stands in the new tree.
pub record IsRange (start n : ℕ) (t e : Node) : Type 0 where
  pub pieces : ArePieces (ranges (data_edges t) start n) (data_edges e)
  pub whole : All (λ s. IsWithin s e) (kept_within t start n)

abbrev pub IsRangeBelow : ℕ → ℕ → Option Node → Node → Type 0
IsRangeBelow start n None e = ⊥
IsRangeBelow start n (Some t) e = IsRange start n t e

-- the same of the tree that stands below a Sum at the root
abbrev pub SharesRange : ℕ → ℕ → Node → Node → Type 0
SharesRange start n root e = IsRangeBelow start n (below_sum root) e

-- an inline cord shares nothing
abbrev pub SharesIfTree : ℕ → ℕ → Option Node → Option Node → Type 0
SharesIfTree start n old None = Unit {0}
SharesIfTree start n None (Some e) = ⊥
SharesIfTree start n (Some root) (Some e) = SharesRange start n root e
