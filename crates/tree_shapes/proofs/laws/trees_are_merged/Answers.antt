-- The facts of `trees_are_merged` that the check leaves to be shown.
use Rattle.tree_shapes.proofs.MergeLaws.{joins, joined-across}
use Rattle.tree_shapes.proofs.laws.trees_are_merged.Goals as goal

pub returns : goal.returns
returns c = record { joins = joins; across = joined-across }
