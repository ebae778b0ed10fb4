-- What a published tree leaves a worker with.
use Rattle.std.proofs.Common.{[], refl}
use Rattle.cord_value.proofs.Balances.{keeps-same}
use Rattle.cord_sampled.proofs.Keeping.{keeps-then, keeps-ended}
use Rattle.cord_sampled.proofs.publishing.publish_tree.Goals as goal

pub returns-in_default-clause-worker : goal.returns-in_default-clause-worker
returns-in_default-clause-worker g c = keeps-same _ _ _ refl

pub returns-in-Ok-clause-worker : goal.returns-in-Ok-clause-worker
returns-in-Ok-clause-worker g c = keeps-then _ [] [] 0 0 0 0 _ _ _ c.emptied-pass.ensures.worker c.in-Ok.ensures.worker

pub returns-in-Err-clause-undone : goal.returns-in-Err-clause-undone
returns-in-Err-clause-undone g c =
    let limit = g.P.Naming.limit in
    keeps-then limit [] [] 0 0 0 1 _ _ _ (keeps-then limit [] [] 0 0 0 0 _ _ _ c.emptied-pass.ensures.worker (keeps-same limit _ _ c.in-Err.ensures.refused.1))
    (keeps-ended limit _ _ c.end.ensures.ended)
