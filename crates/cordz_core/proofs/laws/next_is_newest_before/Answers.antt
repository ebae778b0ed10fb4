-- The law, from its lemma.
use Rattle.cordz_core.proofs.Walking.{next_newest, next_none}
use Rattle.cordz_core.proofs.laws.next_is_newest_before.Goals as goal

pub returns : goal.returns
returns c = record { found = next_newest; none = next_none }
