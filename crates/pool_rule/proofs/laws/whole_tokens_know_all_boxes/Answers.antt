-- The facts of `whole_tokens_know_all_boxes` that the check leaves to be shown.
use Rattle.pool_rule.proofs.Settled.{settled, used_inside}
use Rattle.pool_rule.proofs.laws.whole_tokens_know_all_boxes.Goals as goal

pub returns : goal.returns
returns g c = record { boxes = settled; places = used_inside }
