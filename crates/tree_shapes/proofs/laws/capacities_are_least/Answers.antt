-- The capacities ascend, and the last holds as many bytes as any flat has.
use Rattle.tree_shapes.proofs.Capacities.{capacity_is_least}
use Rattle.tree_shapes.proofs.laws.capacities_are_least.Goals as goal

pub returns : goal.returns
returns c = capacity_is_least
