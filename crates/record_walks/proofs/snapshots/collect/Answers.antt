-- What the proof of `collect` needs beyond the search.
use Rattle.std.proofs.Common.{ℕ, [], sym, subst}
use Rattle.cord_value.specs.Workers.{Keeps}
use Rattle.record_walks.proofs.snapshots.collect.Goals as goal

pub returns-clause-worker : goal.returns-clause-worker
returns-clause-worker g c =
    subst (λ (n : ℕ). Keeps g.P.Naming.limit [] 0 n c.args.hand.now.worker c.end_share.new.w) (sym c.count-shares.ensures.is) c.end_share.ensures
