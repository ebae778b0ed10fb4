-- The law, from its lemma.
use Rattle.cordz_core.proofs.Staying.{walked_slots_hold}
use Rattle.cordz_core.proofs.laws.walked_slots_hold.Goals as goal

pub returns : goal.returns
returns c = walked_slots_hold
