-- What the proof of `round` needs beyond the search.
use Rattle.pool_rule.proofs.Trades.{Stands-held}
use Rattle.pool_tests.proofs.calls.round.Goals as goal

pub share-requires-clause-stands : goal.share-requires-clause-stands
share-requires-clause-stands g c = Stands-held _ _ c.requires.held
