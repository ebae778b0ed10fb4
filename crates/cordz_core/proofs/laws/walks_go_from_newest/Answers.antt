-- The law, from its lemma.
use Rattle.cordz_core.proofs.Walking.{run_newest_first}
use Rattle.cordz_core.proofs.laws.walks_go_from_newest.Goals as goal

pub returns : goal.returns
returns c = run_newest_first
