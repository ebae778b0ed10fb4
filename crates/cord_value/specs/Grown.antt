-- What a cord is to which bytes were added, and why none were.
use Rattle.std.specs.Prelude.{ℕ, ◌≡◌, ◌-◌, ◌*◌, ◌<◌, ◌≤◌, List, [], ◌∷◌, length, Option, Some, None, false}
use Rattle.node_forest.specs.Label.{Node}
use Rattle.node_forest.specs.declared.side.Side.{Side}
use Rattle.tree_shapes.specs.Cords.{IsBytesAdded, bytes_step, with_bytes_added, without_sum}
use Rattle.tree_shapes.specs.Flats.{piece_count}
use Rattle.tree_shapes.specs.Shape.{Shape}
use Rattle.node_edges.specs.Text.{text}
use Rattle.node_edges.specs.Trees.{shape_of}
use Rattle.pool_rule.specs.Trades.{Trades}
use Rattle.pool_rule.specs.Views.{View}
use Rattle.btree_node.specs.Made.{GainedNodes}
use Rattle.cord_value.specs.Changes.{IsRefused}
use Rattle.cord_value.specs.Views.{CordView, cord_shape, IsTreeOf, nodes_of, passes_of}
use Rattle.cord_value.specs.Workers.{Keeps}
use Rattle.cord_value.specs.declared.refusals.CordError.{CordError}

abbrev pub inline_cord : List ℕ → CordView
inline_cord bytes = record { bytes = bytes; tree = None }

abbrev pub tree_cord : Node → CordView
tree_cord e = record { bytes = text e; tree = Some e }

-- the rules' shape of a tree with n bytes more at a side
abbrev pub grown_shape : Side → ℕ → Node → Shape
grown_shape side n e = bytes_step false side n (cord_shape (tree_cord e)) (without_sum (Some (shape_of e)))

-- a new tree has a hold of its own, and beside that nodes alone were gained
pub record IsMadeBeside (v w : View) (e : Node) : Type 0 where
  pub traded : Trades v.holds [] (e ∷ []) w.holds
  pub gained : GainedNodes v w

-- an inline cord takes just as many numbers as its new tree has nodes, and a tree at most 25 for each piece of the bytes
abbrev pub IsCountFor : Option Node → Option Node → ℕ → ℕ → Type 0
IsCountFor None new n count = count ≡ nodes_of new
IsCountFor (Some e) new n count = count ≤ 25 * piece_count n

-- n bytes were added at a side: the rules give the shape; a pass was made where there was no tree, and ended where none is left, as may be
-- where there was a sum
pub record IsGrown (limit : ℕ) (side : Side) (n : ℕ) (old new : CordView) (v w : View) : Type 0 where
  pub shape : IsBytesAdded side n (cord_shape old) (cord_shape new)
  pub formed : IsTreeOf new.bytes new.tree
  pub numbers : List ℕ
  pub count : IsCountFor old.tree new.tree n (length numbers)
  pub keeps : Keeps limit numbers (passes_of new.tree - passes_of old.tree) (passes_of old.tree - passes_of new.tree) v w

-- of n bytes at a side
abbrev pub IsGrowRefused : ℕ → ℕ → Side → ℕ → CordView → CordError → View → View → Type 0
IsGrowRefused size limit side n old x v w = (0 < n) × IsRefused size limit old.tree (with_bytes_added false side n (cord_shape old)) x v w
