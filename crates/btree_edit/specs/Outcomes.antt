-- What became of a tree's root.
use Rattle.std.specs.Prelude.{◌==◌, Bool, true, false, nat_lt}
use Rattle.node_forest.specs.Label.{Node}
use Rattle.node_edges.specs.Trees.{shape_of}
use Rattle.tree_shapes.specs.Shape.{level}
use Rattle.btree_edit.specs.declared.edge.Outcome.{Outcome}
use Rattle.btree_edit.specs.declared.edge.Outcome.TheVariants.{Popped, Same, Copied}

-- it is higher; else it has the same number; else it was made anew
abbrev pub outcome_by : Bool → Bool → Outcome
outcome_by true same = Popped
outcome_by false true = Same
outcome_by false false = Copied

abbrev pub outcome_of : Node → Node → Outcome
outcome_of old new = outcome_by (nat_lt (level (shape_of old)) (level (shape_of new))) (new.0.number == old.0.number)
