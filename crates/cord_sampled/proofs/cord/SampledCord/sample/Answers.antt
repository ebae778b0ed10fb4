-- What a cord that gets a record leaves a worker with.
use Rattle.std.proofs.Common.{[], refl, arith}
use Rattle.cord_value.proofs.Balances.{keeps-same}
use Rattle.cord_sampled.specs.Tracking.{ended_by}
use Rattle.cord_sampled.proofs.Keeping.{keeps-then, keeps-still, keeps-ended}
use Rattle.cord_sampled.proofs.cord.SampledCord.sample.Goals as goal

pub returns-in_default-clause-worker : goal.returns-in_default-clause-worker
returns-in_default-clause-worker g c = keeps-same _ _ _ refl

pub returns-in-None-clause-worker : goal.returns-in-None-clause-worker
returns-in-None-clause-worker g c =
    let n = ended_by c.track-ticket.result.1 in keeps-still _ [] 0 0 0 n 0 n _ _ _ c.in-Ok.ensures.worker c.track-ticket.ensures.worker refl (omega arith)

pub returns-in-Err-clause-undone : goal.returns-in-Err-clause-undone
returns-in-Err-clause-undone g c =
    let limit = g.P.Naming.limit in keeps-then limit [] [] 0 0 0 1 _ _ _ (keeps-same limit _ _ c.in-Err.ensures.refused.1) (keeps-ended limit _ _ c.end.ensures.ended)
