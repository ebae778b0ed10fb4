-- The facts of `idle_pools_are_empty` that the check leaves to be shown.
use Rattle.pool_rule.proofs.Ends.{empties}
use Rattle.pool_rule.proofs.laws.idle_pools_are_empty.Goals as goal

pub returns : goal.returns
returns g c = empties
