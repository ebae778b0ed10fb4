-- The facts of `pools_start_ruled` that the check leaves to be shown.
use Rattle.pool_rule.proofs.Calls.{begins}
use Rattle.pool_rule.proofs.laws.pools_start_ruled.Goals as goal

pub returns : goal.returns
returns g c = begins
