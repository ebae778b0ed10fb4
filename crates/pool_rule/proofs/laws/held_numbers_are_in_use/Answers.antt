-- The facts of `held_numbers_are_in_use` that the check leaves to be shown.
use Rattle.pool_rule.proofs.Settled.{in_use}
use Rattle.pool_rule.proofs.laws.held_numbers_are_in_use.Goals as goal

pub returns : goal.returns
returns g c = in_use
