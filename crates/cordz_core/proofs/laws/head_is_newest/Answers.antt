-- The law, from its lemma.
use Rattle.cordz_core.proofs.Walking.{head_newest, head_none}
use Rattle.cordz_core.proofs.laws.head_is_newest.Goals as goal

pub returns : goal.returns
returns c = record { found = head_newest; none = head_none }
