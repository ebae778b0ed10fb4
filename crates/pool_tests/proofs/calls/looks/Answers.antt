-- What the proof of `looks` needs beyond the search.
use Rattle.std.proofs.Common.{List, sym, subst}
use Rattle.node_forest.specs.Label.{Node}
use Rattle.pool_rule.specs.Trades.{Stands}
use Rattle.pool_rule.proofs.Trades.{Stands-held, HasHolds-gained}
use Rattle.pool_tests.proofs.calls.looks.Goals as goal

pub look-before-requires-clause-held : goal.look-before-requires-clause-held
look-before-requires-clause-held g c = HasHolds-gained _ _ _ c.in-Ok.ensures.traded

pub share-requires-clause-stands : goal.share-requires-clause-stands
share-requires-clause-stands g c =
    subst (λ (hs : List Node). Stands hs c.in-Ok.edge) (sym c.look-before.ensures.holds) (Stands-held _ _ (HasHolds-gained _ _ _ c.in-Ok.ensures.traded))
