-- The facts of `trees_never_get_lower` that the check leaves to be shown.
use Rattle.tree_shapes.proofs.HeightLaws.{with_all-rises, bytes-higher}
use Rattle.tree_shapes.proofs.laws.trees_never_get_lower.Goals as goal

pub returns : goal.returns
returns c = record { many = with_all-rises; bytes = bytes-higher }
