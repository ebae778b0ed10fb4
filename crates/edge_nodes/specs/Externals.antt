-- What a new external is.
use Rattle.std.specs.Prelude.{ℕ, List, [], ◌∷◌, length}
use Rattle.node_forest.specs.declared.kind.Kind.TheVariants.{External}
use Rattle.node_forest.specs.Forest.{empty}
use Rattle.node_forest.specs.Label.{Node}

-- the slot that comes next
abbrev pub first_slot : List ℕ → ℕ
first_slot [] = 0
first_slot (slot ∷ later) = slot

-- the node of an external with these bytes, whose releaser is in this slot
abbrev pub external_node : ℕ → List ℕ → ℕ → Node
external_node n bytes slot = (record { number = n; kind = External; length = length bytes; bytes = bytes; more = slot }, empty)
