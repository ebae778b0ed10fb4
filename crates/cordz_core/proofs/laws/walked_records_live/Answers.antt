-- The law, from its lemma.
use Rattle.cordz_core.proofs.Walking.{walked_live}
use Rattle.cordz_core.proofs.laws.walked_records_live.Goals as goal

pub returns : goal.returns
returns c = walked_live
