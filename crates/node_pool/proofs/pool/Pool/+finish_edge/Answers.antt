-- What the proof of `Pool::finish_edge` needs beyond the search.
use Rattle.std.proofs.Common.{rules, ◌<◌, length, arith}
use Rattle.node_pool.proofs.Finishing.{partway_first, partway_next, held_next, room_next, fewer_below}
use Rattle.node_pool.proofs.pool.Pool.+finish_edge.Goals as goal

pub loop-child-init : goal.loop-child-init
loop-child-init g t c = partway_first c.args.edge.now _ c.leave.result c.args.w.now c.leave.new.w c.leave.ensures.left c.leave.ensures.traded c.in-Last.is c.edges_of-edges.ensures.edges

pub finish_edge-requires : goal.finish_edge-requires
finish_edge-requires g t c κs within =
    let e = c.args.edge.now in
    let low : c.loop-child.child-index < length c.edges_of-edges.result.now = search rules in
    let fewer = fewer_below e _ c.loop-child.child-index _ low c.child-item.is c.edges_of-edges.ensures.edges in
    let held = held_next e _ c.loop-child.child-index _ c.args.w.now c.loop-child.w low c.child-item.is c.requires.held c.loop-child.invariant in
    let room = room_next e _ c.loop-child.child-index _ c.args.w.now c.loop-child.w low c.child-item.is c.edges_of-edges.ensures.edges c.edges_of-edges.ensures.ways c.requires.room c.loop-child.invariant in
    (omega (arith, fewer, c.decreases), (within.0, (within.1, (held, room))))

pub loop-child-preserved : goal.loop-child-preserved
loop-child-preserved g t c =
    let low : c.loop-child.child-index < length c.edges_of-edges.result.now = search rules in
    partway_next c.args.edge.now _ c.loop-child.child-index _ c.args.w.now c.loop-child.w _ low c.child-item.is c.edges_of-edges.ensures.edges c.loop-child.invariant c.finish_edge.ensures.traded c.finish_edge.ensures.finished
