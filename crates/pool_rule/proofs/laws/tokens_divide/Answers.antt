-- The facts of `tokens_divide` that the check leaves to be shown.
use Rattle.pool_rule.proofs.Calls.{splits, parts, hands, draws, merges}
use Rattle.pool_rule.proofs.laws.tokens_divide.Goals as goal

pub returns : goal.returns
returns g c = record { split = splits; part = parts; hand = hands; draw = draws; merge = merges }
