-- The facts of `numbers_in_use_are_held` that the check leaves to be shown.
use Rattle.pool_rule.proofs.Settled.{in_use_held}
use Rattle.pool_rule.proofs.laws.numbers_in_use_are_held.Goals as goal

pub returns : goal.returns
returns g c = in_use_held
