-- A cord without a share leaves the worker alone.
use Rattle.std.proofs.Common.{refl}
use Rattle.cord_value.proofs.Balances.{keeps-same}
use Rattle.cord_sampled.proofs.tracking.recorded.Goals as goal

pub returns-in_default-clause-worker : goal.returns-in_default-clause-worker
returns-in_default-clause-worker g c = keeps-same _ _ _ refl
