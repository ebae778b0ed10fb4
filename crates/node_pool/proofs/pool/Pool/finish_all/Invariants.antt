-- So many of the holds have gone.
use Rattle.std.proofs.Common.{[], take}
use Rattle.pool_rule.specs.Trades.{Trades}
use Rattle.node_pool.specs.Slices.{AreFinished}
use Rattle.node_pool.proofs.pool.Pool.finish_all.Given as goal

abbrev pub invariant-loop-edge : goal.invariant-loop-edge
invariant-loop-edge g l = record {
  traded : Trades l.fn.w.holds (take l.edge-index l.edges) [] l.w.holds;
  finished : AreFinished l.edges l.fn.w l.w;
}
