-- What the proof of `Kept::into_value` needs beyond the search.
use Rattle.cordz_desk.proofs.Untouching.{comes_back}
use Rattle.cordz_desk.proofs.keeping.Kept.into_value.Goals as goal

pub returns : goal.returns
returns g c = comes_back _ _ _ c.take-value.result c.close-closed.ensures.values.2 c.take-value.ensures.value
