-- What the proof of `tree_again` needs beyond the search.
use Rattle.std.proofs.Common.{[], subst}
use Rattle.node_forest.specs.Label.{Node}
use Rattle.std.specs.Prelude.{List}
use Rattle.pool_rule.specs.Trades.{Trades}
use Rattle.pool_rule.proofs.Trades.{Stands-held, HasHolds-gained}
use Rattle.cordz_desk.proofs.reading.tree_again.Goals as goal

pub share-requires-clause-stands : goal.share-requires-clause-stands
share-requires-clause-stands g c =
    Stands-held _ _ (HasHolds-gained _ _ _ (subst (λ (z : List Node). Trades c.args.w.now.holds [] z c.draw.new.w.holds) c.requires.share.held c.draw.ensures.traded))
