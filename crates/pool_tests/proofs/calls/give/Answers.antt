-- What the proof of `give` needs beyond the search.
use Rattle.std.proofs.Common.{List, ap, sym, subst}
use Rattle.node_forest.specs.Label.{Node}
use Rattle.pool_rule.specs.Trades.{Stands}
use Rattle.pool_rule.specs.Views.{View}
use Rattle.pool_rule.proofs.Trades.{Stands-held}
use Rattle.pool_tests.proofs.calls.give.Goals as goal

pub share-requires-clause-stands : goal.share-requires-clause-stands
share-requires-clause-stands g c =
    subst (λ (hs : List Node). Stands hs c.args.edge.now) (ap (λ (v : View). v.holds) (sym c.in-Ok.ensures.made.view)) (Stands-held _ _ c.requires.held)
