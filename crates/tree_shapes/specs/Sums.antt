-- A sum at the root: what lies under it, and how it is put over a tree.
use Rattle.std.specs.Prelude.{ℕ, Option, Some, None}
use Rattle.node_forest.specs.declared.kind.Kind.{Kind}
use Rattle.node_forest.specs.declared.kind.Kind.TheVariants.{Sum}
use Rattle.node_forest.specs.Forest.{Forest, empty, grow}
use Rattle.tree_shapes.specs.Shape.{Shape, length_of}

-- the first tree of a forest
abbrev pub first_in : {L : Type 0} → Forest L → Option (L × Forest L)
first_in empty = None
first_in (grow l cs rest) = Some (l, cs)

abbrev pub skipped_step : Kind → Shape → Option Shape
skipped_step Sum s = first_in s.1
skipped_step _ s = Some s

-- what lies under a Sum, which may be nothing; any other tree is left as it is
abbrev pub skipped : Shape → Option Shape
skipped s = skipped_step s.0.kind s

abbrev pub sum_step : Kind → ℕ → Option ℕ
sum_step Sum value = Some value
sum_step _ value = None

-- the expected sum that the root says
abbrev pub sum_in : Shape → Option ℕ
sum_in s = sum_step s.0.kind s.0.more

-- a Sum over a tree, or over nothing
abbrev pub sum_over : ℕ → Option Shape → Shape
sum_over value None = (record { kind = Sum; length = 0; more = value }, empty)
sum_over value (Some t) = (record { kind = Sum; length = length_of t; more = value }, grow t.0 t.1 empty)
