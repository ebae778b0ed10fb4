-- What the proof of `Pool::look` needs beyond the search.
use Rattle.std.proofs.Common.{rules, ◌<◌, inl, length, refl}
use Rattle.std.proofs.lemmas.List.{get_or_default}
use Rattle.pool_rule.proofs.Door.{held-in}
use Rattle.node_pool.proofs.Walks.{walk_on, next_place}
use Rattle.node_pool.proofs.pool.Pool.look.Goals as goal

pub loop-i-init : goal.loop-i-init
loop-i-init g c = record { end = refl; down = c.requires.path; reached = inl (held-in _ _ c.requires.held) }

pub child_of-edge-requires : goal.child_of-edge-requires
child_of-edge-requires g c =
    let low : c.loop-i.i < length c.args.path.now = search rules in
    next_place c.args.w.now c.args.root.now c.args.path.now _ c.loop-i.i _ low (get_or_default c.args.path.now c.loop-i.i _ 0 low) c.loop-i.invariant

pub loop-i-preserved : goal.loop-i-preserved
loop-i-preserved g c =
    let low : c.loop-i.i < length c.args.path.now = search rules in
    walk_on c.args.w.now c.args.root.now c.args.path.now _ _ c.loop-i.i _ low (get_or_default c.args.path.now c.loop-i.i _ 0 low) c.child_of-edge.ensures c.loop-i.invariant
