-- What a cord that is sampled, or isn't, leaves a worker with.
use Rattle.std.proofs.Common.{ℕ, [], refl, ap, subst, arith}
use Rattle.cord_value.specs.Views.{CordView, passes_of}
use Rattle.cord_value.specs.Workers.{Keeps}
use Rattle.cord_value.proofs.Balances.{keeps-same}
use Rattle.cord_sampled.specs.Tracking.{ended_by}
use Rattle.cord_sampled.proofs.Keeping.{keeps-then, keeps-still, keeps-ended}
use Rattle.cord_sampled.proofs.sampling.sampled.Goals as goal

pub returns-in_default-clause-worker : goal.returns-in_default-clause-worker
returns-in_default-clause-worker g c = keeps-same _ _ _ refl

pub returns-in-Ok-clause-worker : goal.returns-in-Ok-clause-worker
returns-in-Ok-clause-worker g c =
    let n = ended_by c.track-ticket.result.1 in keeps-still _ [] 0 0 0 n 0 n _ _ _ c.in-Ok.ensures.worker c.track-ticket.ensures.worker refl (omega arith)

pub returns-in-Err-clause-undone : goal.returns-in-Err-clause-undone
returns-in-Err-clause-undone g c =
    let limit = g.P.Naming.limit in
    let left = subst (λ (n : ℕ). Keeps limit [] 0 n c.end.new.w c.release.new.w) (ap (λ (z : CordView). passes_of z.tree) c.share_tree.ensures.kept) c.release.ensures.worker in
    keeps-then limit [] [] 0 1 0 (passes_of c.args.cord.tree) _ _ _
    (keeps-then limit [] [] 0 0 0 1 _ _ _ (keeps-same limit _ _ c.in-Err.ensures.refused.1) (keeps-ended limit _ _ c.end.ensures.ended)) left
