-- The facts of `ranges_of_trees_are_trees` that the check leaves to be shown.
use Rattle.tree_shapes.proofs.RangeLaws.{kept-lowered, kept-length, kept-whole, kept-kept}
use Rattle.tree_shapes.proofs.laws.ranges_of_trees_are_trees.Goals as goal

pub returns : goal.returns
returns c = record {
  rooted = λ t start n root some fits. (kept-lowered t start n root.node some fits).root;
  length = λ t start n root some fits. kept-length t start n root.node some fits;
  low = λ t start n root some fits. (kept-lowered t start n root.node some fits).low;
  whole = kept-whole;
  again = λ t a n b m root. kept-kept t a n b m root.node;
}
