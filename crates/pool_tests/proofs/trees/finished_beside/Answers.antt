-- What the proof of `finished_beside` needs beyond the search.
use Rattle.std.proofs.Common.{sym, subst}
use Rattle.node_forest.specs.Label.{Node}
use Rattle.pool_rule.specs.Trades.{Stands}
use Rattle.pool_rule.proofs.Trades.{Stands-held, HasHolds-gained}
use Rattle.pool_tests.proofs.trees.finished_beside.Goals as goal

pub share-requires-clause-stands : goal.share-requires-clause-stands
share-requires-clause-stands g c =
    subst (λ (e : Node). Stands c.flat.new.w.holds e) (sym c.in-Ok-again.ensures) (Stands-held _ _ (HasHolds-gained _ _ _ c.in-Ok.ensures.traded))
