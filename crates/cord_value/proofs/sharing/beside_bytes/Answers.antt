-- A flat that only stands in the new tree then.
use Rattle.std.proofs.Common.{[], ◌∷◌, length, arith, ap}
use Rattle.tree_shapes.specs.Merge.{joined}
use Rattle.tree_shapes.specs.Shape.{level}
use Rattle.node_edges.specs.Trees.{shape_of}
use Rattle.pool_rule.proofs.Trades.{HasHolds-gained, Stands-held}
use Rattle.btree_merge.specs.Merging.{kept_merged}
use Rattle.btree_node.specs.Made.{IsRefusedFrom}
use Rattle.btree_node.proofs.MadeLaws.{err-same, refused-take}
use Rattle.cord_value.proofs.Growth.{some-there}
use Rattle.cord_value.proofs.JoinLaws.{beside-flat, flat-merged, refused-flat}
use Rattle.cord_value.proofs.sharing.beside_bytes.Goals as goal

pub returns-in_err-flat-clause-refused : goal.returns-in_err-flat-clause-refused
returns-in_err-flat-clause-refused g c =
    let size = g.P.Naming.size in
    let v = c.args.w.now in
    let w = c.new_flat.new.w in
    let e = c.in_err-flat.ensures in
    err-same c.from_residual.result _ (λ x. IsRefusedFrom size [] x v w) c.from_residual.ensures.1 (refused-take size _ v w e.cause e.noted e.same e.height)

pub merged-requires-clause-stands : goal.merged-requires-clause-stands
merged-requires-clause-stands g c =
    Stands-held c.new_flat.new.w.holds c.in_ok-flat.flat (HasHolds-gained c.args.w.now.holds (c.in_ok-flat.flat ∷ []) c.new_flat.new.w.holds c.in_ok-flat.ensures.traded)

pub returns-in-Ok-clause-made : goal.returns-in-Ok-clause-made
returns-in-Ok-clause-made g c =
    let flat = c.in_ok-flat.flat in
    beside-flat g.P.Naming.size c.args.w.now c.new_flat.new.w c.merged.new.w c.finish.new.w flat c.in-Ok.made (kept_merged c.args.side flat c.args.tree.now)
    c.in_ok-flat.ensures.added c.in_ok-flat.ensures.traded c.in-Ok.ensures.made c.finish.ensures.traded c.finish.ensures.finished

pub returns-clause-refused : goal.returns-clause-refused
returns-clause-refused g c =
    let flat = c.in_ok-flat.flat in
    let x = c.args.tree.now in
    let side = c.args.side in
    let n = length c.args.bytes.now in
    let is = flat-merged side n flat x (some-there c.args.bytes.now c.if-is_empty.ensures) c.in_ok-flat.ensures.shape in
    refused-flat g.P.Naming.size (joined side (shape_of flat) (shape_of x)) c.in-Err.error c.args.w.now c.new_flat.new.w c.merged.new.w c.finish-in-Err.new.w flat
    c.in_ok-flat.ensures.added c.in_ok-flat.ensures.traded c.in-Err.ensures.refused (λ up. c.requires.low (omega (arith, up, ap level is))) c.finish-in-Err.ensures.traded c.finish-in-Err.ensures.finished
