-- What the proof of `Pool::share_all` needs beyond the search.
use Rattle.std.proofs.Common.{◌≡◌, ◌≤◌, List, length, take, refl, sym, subst, arith}
use Rattle.pool_rule.specs.Trades.{Stands}
use Rattle.pool_rule.proofs.Gains.{gaining-none, gained-then}
use Rattle.pool_rule.proofs.Trades.{Trades-same, Trades-gain_more, Stands-kept}
use Rattle.node_pool.proofs.Gaining.{gained-shared}
use Rattle.node_pool.proofs.Slicing.{length-taken}
use Rattle.node_pool.proofs.pool.Pool.share_all.Goals as goal

pub loop-edge-init : goal.loop-edge-init
loop-edge-init g c = record { traded = Trades-same _ _ refl; gained = gaining-none c.args.w.now }

pub share-requires-clause-stands : goal.share-requires-clause-stands
share-requires-clause-stands g c =
    let e = c.edge-item.result in
    Stands-kept _ _ _ e c.loop-edge.invariant.traded (subst (Stands c.args.w.now.holds) (sym c.edge-item.is) (c.requires.stand c.loop-edge.edge-index e c.loop-edge-test.true))

pub share-requires-clause-room : goal.share-requires-clause-room
share-requires-clause-room g c =
    omega (arith, c.loop-edge.invariant.traded.count, length-taken c.loop-edge.edge-index c.args.edges.now c.loop-edge-test.true, c.loop-edge-test.true, c.requires.room)

pub loop-edge-preserved : goal.loop-edge-preserved
loop-edge-preserved g c = record {
  traded = Trades-gain_more _ _ _ c.args.edges.now c.loop-edge.edge-index c.edge-item.result c.loop-edge-test.true c.edge-item.is c.loop-edge.invariant.traded c.share.ensures.traded;
  gained = gained-then _ _ c.args.w.now c.loop-edge.w c.share.new.w c.loop-edge.invariant.gained (gained-shared c.loop-edge.w c.share.new.w c.edge-item.result c.share.ensures.shared);
}
