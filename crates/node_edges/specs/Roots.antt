-- The tree below a Sum at the root.
use Rattle.std.specs.Prelude.{ℕ, ◌≡◌, ◌≤◌, List, [], Option, Some, None}
use Rattle.node_forest.specs.declared.kind.Kind.{Kind}
use Rattle.node_forest.specs.declared.kind.Kind.TheVariants.{Sum}
use Rattle.node_forest.specs.Label.{Node}
use Rattle.tree_shapes.specs.Shape.{level}
use Rattle.tree_shapes.specs.Sums.{first_in}
use Rattle.node_edges.specs.Text.{text}
use Rattle.node_edges.specs.Trees.{shape_of, IsTreeAt}

abbrev pub below_step : Kind → Node → Option Node
below_step Sum e = first_in e.1
below_step _ e = Some e

-- a Sum's child, if it has one; any other root is the tree itself
abbrev pub below_sum : Node → Option Node
below_sum e = below_step e.0.kind e

-- a well formed tree that is no Sum; a Branch may have one edge
pub record IsTop (e : Node) : Type 0 where
  pub tree : IsTreeAt (level (shape_of e)) e
  pub low : level (shape_of e) ≤ 12

-- the text of a tree that may be missing
abbrev pub text_of : Option Node → List ℕ
text_of None = []
text_of (Some e) = text e
