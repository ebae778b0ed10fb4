-- The law, from its lemma.
use Rattle.cordz_core.proofs.Walking.{whole_walk_gives}
use Rattle.cordz_core.proofs.laws.whole_walks_miss_none.Goals as goal

pub returns : goal.returns
returns c = whole_walk_gives
