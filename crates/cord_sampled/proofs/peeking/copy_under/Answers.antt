-- A copy, and a share for its record, keep the worker as it was; so does a copy that is left again.
use Rattle.std.proofs.Common.{[]}
use Rattle.cord_value.proofs.Balances.{keeps-same}
use Rattle.cord_sampled.proofs.Keeping.{keeps-then}
use Rattle.cord_sampled.proofs.peeking.copy_under.Goals as goal

pub returns-in-Err-clause-worker : goal.returns-in-Err-clause-worker
returns-in-Err-clause-worker g c = keeps-same _ _ _ c.in-Err.ensures.refused.1

pub returns-in-Ok-share_if-clause-worker : goal.returns-in-Ok-share_if-clause-worker
returns-in-Ok-share_if-clause-worker g c = keeps-then _ [] [] 0 0 0 0 _ _ _ c.in-Ok.ensures.worker c.in-Ok-share_if.ensures.worker

pub returns-in-Err-share_if-clause-worker : goal.returns-in-Err-share_if-clause-worker
returns-in-Err-share_if-clause-worker g c =
    let limit = g.P.Naming.limit in
    keeps-then limit [] [] 0 0 0 0 _ _ _ (keeps-then limit [] [] 0 0 0 0 _ _ _ c.in-Ok.ensures.worker (keeps-same limit _ _ c.in-Err-share_if.ensures.refused.1))
    c.emptied_copy.ensures.worker
