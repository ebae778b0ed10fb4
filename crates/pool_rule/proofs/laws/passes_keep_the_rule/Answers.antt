-- The facts of `passes_keep_the_rule` that the check leaves to be shown.
use Rattle.pool_rule.proofs.Calls.{counts, ends, undoes}
use Rattle.pool_rule.proofs.laws.passes_keep_the_rule.Goals as goal

pub returns : goal.returns
returns g c = record { count = counts; end = ends; undo = undoes }
