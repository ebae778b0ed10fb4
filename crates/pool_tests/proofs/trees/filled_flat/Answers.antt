-- What the proof of `filled_flat` needs beyond the search.
use Rattle.pool_rule.proofs.Trades.{Stands-held, HasHolds-gained, Trades-pass}
use Rattle.pool_tests.proofs.trees.filled_flat.Goals as goal

pub share-requires-clause-stands : goal.share-requires-clause-stands
share-requires-clause-stands g c = Stands-held _ _ (HasHolds-gained _ _ _ (Trades-pass _ _ _ _ _ c.in-Ok.ensures.traded c.in_ok-filled.ensures.traded))
