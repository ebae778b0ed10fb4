-- The facts of `whole_tokens_know_all_steps` that the check leaves to be shown.
use Rattle.pool_rule.proofs.Ends.{known}
use Rattle.pool_rule.proofs.laws.whole_tokens_know_all_steps.Goals as goal

pub returns : goal.returns
returns g c = known
