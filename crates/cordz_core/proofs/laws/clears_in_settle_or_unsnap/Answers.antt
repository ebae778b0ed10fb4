-- The law, from its lemma.
use Rattle.cordz_core.proofs.Deleting.{deleted_by}
use Rattle.cordz_core.proofs.laws.clears_in_settle_or_unsnap.Goals as goal

pub returns : goal.returns
returns c = deleted_by
