-- So many of the edges are shared.
use Rattle.std.proofs.Common.{[], take}
use Rattle.pool_rule.specs.Gains.{no_gain, Gained}
use Rattle.pool_rule.specs.Trades.{Trades}
use Rattle.node_pool.proofs.pool.Pool.share_all.Given as goal

abbrev pub invariant-loop-edge : goal.invariant-loop-edge
invariant-loop-edge g l = record {
  traded : Trades l.fn.w.holds [] (take l.edge-index l.edges) l.w.holds;
  gained : Gained (record no_gain { shares = l.edge-index }) l.fn.w l.w;
}
