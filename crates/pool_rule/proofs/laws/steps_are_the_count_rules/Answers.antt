-- The facts of `steps_are_the_count_rules` that the check leaves to be shown.
use Rattle.pool_rule.proofs.CoreSteps.{core_steps}
use Rattle.pool_rule.proofs.laws.steps_are_the_count_rules.Goals as goal

pub returns : goal.returns
returns g c = λ k s id v slots r at. core_steps k s id v r at slots
