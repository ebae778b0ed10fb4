-- Where no share is made nothing was done.
use Rattle.std.proofs.Common.{refl}
use Rattle.cord_value.proofs.Balances.{keeps-same}
use Rattle.cord_sampled.proofs.peeking.share_if.Goals as goal

pub returns-then-not-sampled-clause-worker : goal.returns-then-not-sampled-clause-worker
returns-then-not-sampled-clause-worker g c = keeps-same _ _ _ refl

pub returns-in_default-clause-worker : goal.returns-in_default-clause-worker
returns-in_default-clause-worker g c = keeps-same _ _ _ refl
