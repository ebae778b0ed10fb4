-- The spare passes end one after the other, and then perhaps the share.
use Rattle.std.proofs.Common.{[]}
use Rattle.cord_sampled.specs.Copies.{one_if}
use Rattle.cord_sampled.specs.Tracking.{ended_by}
use Rattle.cord_sampled.proofs.Acting.{tracked-acts_if}
use Rattle.cord_sampled.proofs.Keeping.{keeps-then}
use Rattle.cord_sampled.proofs.copies.adopt.Goals as goal

pub returns-clause-worker : goal.returns-clause-worker
returns-clause-worker g c =
    let limit = g.P.Naming.limit in
    let m = one_if c.args.copied.spare in
    let n = one_if c.args.copied.spare_sample in
    keeps-then limit [] [] 0 _ 0 (ended_by c.recorded.result.1) _ _ _ (keeps-then limit [] [] 0 m 0 n _ _ _ c.end_pass.ensures c.end_pass-2.ensures) c.recorded.ensures.worker

pub returns-clause-acted : goal.returns-clause-acted
returns-clause-acted g c = tracked-acts_if c.args.copied.share _ _ _ _ c.recorded.ensures.tracked
