-- The law, from its lemma.
use Rattle.cordz_core.proofs.Walking.{stamps_count}
use Rattle.cordz_core.proofs.laws.stamps_count_up.Goals as goal

pub returns : goal.returns
returns c = stamps_count
