-- The facts of `roots_without_sums_are_trees` that the check leaves to be shown.
use Rattle.tree_shapes.proofs.ShapeLaws.{root-is_tree, tree-is_root, tree-root_of}
use Rattle.tree_shapes.proofs.laws.roots_without_sums_are_trees.Goals as goal

pub returns : goal.returns
returns c = λ s. (λ r. root-is_tree s r.1 r.0, λ t. (tree-root_of s t, tree-is_root s t))
