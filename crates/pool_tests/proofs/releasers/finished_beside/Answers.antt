-- What the proof of `finished_beside` needs beyond the search.
use Rattle.pool_rule.proofs.Trades.{Stands-held, HasHolds-gained}
use Rattle.pool_tests.proofs.releasers.finished_beside.Goals as goal

pub share-requires-clause-stands : goal.share-requires-clause-stands
share-requires-clause-stands g c = Stands-held _ _ (HasHolds-gained _ _ _ c.in_ok-edge.ensures.traded)
