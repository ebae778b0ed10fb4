-- The facts of `nodes_are_added` that the check leaves to be shown.
use Rattle.tree_shapes.proofs.HeightLaws.{added-adds, added-rooted}
use Rattle.tree_shapes.proofs.laws.nodes_are_added.Goals as goal

pub returns : goal.returns
returns c = record {
  rooted = added-rooted;
  length = λ side t x root node low. (added-adds side t x root node low).all;
  no_lower = λ side t x root node low. (added-adds side t x root node low).no_lower;
  rises = λ side t x root node low. (added-adds side t x root node low).rises;
}
