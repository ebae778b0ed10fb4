-- A share that goes into a record leaves the worker alone.
use Rattle.std.proofs.Common.{refl}
use Rattle.cord_value.proofs.Balances.{keeps-same}
use Rattle.cord_sampled.proofs.tracking.track.Goals as goal

pub returns-in-Ok-clause-worker : goal.returns-in-Ok-clause-worker
returns-in-Ok-clause-worker g c = keeps-same _ _ _ refl
