-- What a Sum is.
use Rattle.std.specs.Prelude.{ℕ, List, [], ◌∷◌, Option, Some, None, option_map}
use Rattle.std.specs.Borrow.{Bor}
use Rattle.node_forest.specs.declared.kind.Kind.TheVariants.{Sum}
use Rattle.node_forest.specs.Forest.{empty, forest}
use Rattle.node_forest.specs.Label.{Node}

-- what a reference that may be missing points to
abbrev pub seen : Option (Bor Node) → Option Node
seen child = option_map (λ r. r.now) child

-- a Sum of this value over a tree, or over nothing
abbrev pub sum_node : ℕ → ℕ → Option Node → Node
sum_node n value None = (record { number = n; kind = Sum; length = 0; bytes = []; more = value }, empty)
sum_node n value (Some c) = (record { number = n; kind = Sum; length = c.0.length; bytes = []; more = value }, forest (c ∷ []))
