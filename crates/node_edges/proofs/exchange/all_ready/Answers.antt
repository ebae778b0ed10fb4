-- The facts of `all_ready` that the check leaves to be shown.
use Rattle.std.proofs.Common.{◌∙◌, [], ◌∷◌, List, map, reverse, ap}
use Rattle.std.proofs.lemmas.List.{map-append, reverse-reverse, take_all}
use Rattle.node_forest.specs.Changes.{Exchange}
use Rattle.node_edges.specs.Levels.{exchange_of, exchanges_in}
use Rattle.node_edges.proofs.ExchangeLaws.{exchanges-more, map-reverse}
use Rattle.node_edges.proofs.exchange.all_ready.Goals as goal

pub loop-change-preserved : goal.loop-change-preserved
loop-change-preserved c =
    ap (map exchange_of) c.in_ok-push.ensures.items
    ∙ (map-append exchange_of c.loop-change.ready.items (c.in_ok-made_ready.field-0 ∷ [])
    ∙ exchanges-more c.args.changes.now c.loop-change.change-index c.loop-change-item.result (map exchange_of c.loop-change.ready.items) (exchange_of c.in_ok-made_ready.field-0) c.loop-change-test.true c.loop-change-item.is c.loop-change.invariant c.in_ok-made_ready.ensures)

pub returns : goal.returns
returns c =
    ap (λ (z : List _). reverse (map exchange_of z)) c.reverse.ensures.items
    ∙ (ap (λ (z : List Exchange). reverse z) (map-reverse exchange_of c.loop-change.ready.items)
    ∙ (reverse-reverse (map exchange_of c.loop-change.ready.items)
    ∙ (c.loop-change.invariant ∙ ap exchanges_in (take_all _ _ c.loop-change-test.false))))
