-- What the proof of `left_twice` needs beyond the search.
use Rattle.pool_rule.proofs.Trades.{Stands-held, HasHolds-gained}
use Rattle.pool_tests.proofs.calls.left_twice.Goals as goal

pub share-requires-clause-stands : goal.share-requires-clause-stands
share-requires-clause-stands g c = Stands-held _ _ (HasHolds-gained _ _ _ c.in-Ok.ensures.traded)
