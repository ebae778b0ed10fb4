-- The law, from its lemma.
use Rattle.cordz_core.proofs.Deleting.{deletion_place}
use Rattle.cordz_core.proofs.laws.clears_at_deletion_place.Goals as goal

pub returns : goal.returns
returns c = λ n a h s legal t. deletion_place n a h s legal t
