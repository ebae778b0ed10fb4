-- What the proof of `Pool::finish_all` needs beyond the search.
use Rattle.std.proofs.Common.{refl}
use Rattle.pool_rule.proofs.Trades.{Trades-same, HasHolds-next, Trades-spend_more}
use Rattle.node_pool.proofs.Slicing.{finished-none, finished-next}
use Rattle.node_pool.proofs.pool.Pool.finish_all.Goals as goal

pub loop-edge-init : goal.loop-edge-init
loop-edge-init g c = record { traded = Trades-same _ _ refl; finished = finished-none c.args.edges.now c.args.w.now }

pub finish-requires-clause-held : goal.finish-requires-clause-held
finish-requires-clause-held g c = HasHolds-next _ _ c.args.edges.now c.loop-edge.edge-index c.edge-item.result c.loop-edge-test.true c.edge-item.is c.requires.held c.loop-edge.invariant.traded

pub loop-edge-preserved : goal.loop-edge-preserved
loop-edge-preserved g c = record {
  traded = Trades-spend_more _ _ _ c.args.edges.now c.loop-edge.edge-index c.edge-item.result c.loop-edge-test.true c.edge-item.is c.loop-edge.invariant.traded c.finish.ensures.traded;
  finished = finished-next c.args.edges.now c.loop-edge.edge-index c.edge-item.result c.args.w.now c.loop-edge.w c.finish.new.w c.loop-edge-test.true c.edge-item.is c.loop-edge.invariant.finished c.finish.ensures.finished;
}
