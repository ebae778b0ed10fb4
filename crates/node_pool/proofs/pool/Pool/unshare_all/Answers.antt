-- What the proof of `Pool::unshare_all` needs beyond the search.
use Rattle.std.proofs.Common.{◌+◌, ◌≤◌, length, refl, arith}
use Rattle.pool_rule.proofs.Gains.{gaining-none}
use Rattle.pool_rule.proofs.Trades.{Trades-same, HasHolds-next, Stands-held, AreSpare-held}
use Rattle.pool_rule.proofs.Door.{stands-occurs}
use Rattle.node_pool.proofs.Slicing.{unshared-more}
use Rattle.node_pool.proofs.pool.Pool.unshare_all.Goals as goal

pub loop-edge-init : goal.loop-edge-init
loop-edge-init g c = record { traded = Trades-same _ _ refl; gained = gaining-none c.args.w.now }

pub leave-requires-clause-held : goal.leave-requires-clause-held
leave-requires-clause-held g c =
    HasHolds-next _ _ c.args.edges.now c.loop-edge.edge-index c.edge-item.result c.loop-edge-test.true c.edge-item.is (AreSpare-held _ _ c.requires.spare) c.loop-edge.invariant.traded

pub leave-requires-clause-room : goal.leave-requires-clause-room
leave-requires-clause-room g c =
    let e = c.edge-item.result in
    let held = HasHolds-next _ _ c.args.edges.now c.loop-edge.edge-index e c.loop-edge-test.true c.edge-item.is (AreSpare-held _ _ c.requires.spare) c.loop-edge.invariant.traded in
    let few = c.nodes_are_narrow.ensures e (stands-occurs c.loop-edge.w.holds e (Stands-held c.loop-edge.w.holds e held)) in
    omega (arith, few, c.loop-edge.invariant.traded.count, c.requires.room)

pub loop-edge-preserved : goal.loop-edge-preserved
loop-edge-preserved g c =
    let m = unshared-more c.args.edges.now c.loop-edge.edge-index c.edge-item.result c.args.w.now c.loop-edge.w c.loop-edge-test.true c.edge-item.is c.requires.spare c.loop-edge.invariant.traded
    c.leave.result c.leave.new.w c.loop-edge.invariant.gained c.leave.ensures.left c.leave.ensures.traded c.leave.ensures.standing in
    record { traded = m.0; gained = m.1 }
