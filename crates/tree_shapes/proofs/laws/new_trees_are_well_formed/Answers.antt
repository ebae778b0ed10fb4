-- The facts of `new_trees_are_well_formed` that the check leaves to be shown.
use Rattle.tree_shapes.proofs.FlatLaws.{new-tree, new-length, new-twice, new-low}
use Rattle.tree_shapes.proofs.laws.new_trees_are_well_formed.Goals as goal

pub returns : goal.returns
returns c = record { formed = new-tree; length = new-length; nodes = new-twice; low = new-low }
