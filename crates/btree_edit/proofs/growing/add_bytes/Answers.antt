-- What the proof of `add_bytes` needs beyond the search.
use Rattle.std.proofs.Common.{[], ◌∷◌, length, refl, sym, ap, arith}
use Rattle.tree_shapes.specs.Shape.{level}
use Rattle.node_edges.specs.Text.{text}
use Rattle.node_edges.specs.Trees.{shape_of}
use Rattle.pool_rule.specs.Views.{View}
use Rattle.pool_rule.proofs.Trades.{Stands-held}
use Rattle.node_edges.proofs.WayLaws.{tree-down}
use Rattle.btree_node.proofs.GrowLaws.{root-at}
use Rattle.btree_node.proofs.GainLaws.{gained-finished}
use Rattle.btree_node.proofs.MadeLaws.{made-spent, took-finished}
use Rattle.btree_edit.proofs.GrowLaws.{with-nothing, made-nothing}
use Rattle.btree_edit.proofs.PackLaws.{none-bytes, some-bytes, beside-none}
use Rattle.btree_edit.proofs.growing.add_bytes.Goals as goal

pub with_bytes-requires-clause-stands : goal.with_bytes-requires-clause-stands
with_bytes-requires-clause-stands g c = Stands-held c.args.w.now.holds c.args.root.now c.requires.held

pub with_bytes-requires-clause-some : goal.with_bytes-requires-clause-some
with_bytes-requires-clause-some g c = some-bytes (length c.args.bytes.now) c.is_empty.result c.is_empty.ensures c.if-is_empty.false

pub finish-requires-clause-short : goal.finish-requires-clause-short
finish-requires-clause-short g c =
    let root = c.args.root.now in
    omega (arith, tree-down (level (shape_of root)) root (root-at (level (shape_of root)) root refl c.requires.tree c.requires.filled), c.requires.tree.low)

pub returns-in-Ok-clause-made : goal.returns-in-Ok-clause-made
returns-in-Ok-clause-made g c =
    let root = c.args.root.now in
    let v = c.args.w.now in
    let w = c.with_bytes.new.w in
    let x = c.finish.new.w in
    made-spent v w x (root ∷ []) _ c.in-Ok.made c.in-Ok.ensures.made c.finish.ensures.traded (took-finished root w x c.finish.ensures.finished) (gained-finished root w x c.finish.ensures.finished)

pub returns-in-Ok-clause-few : goal.returns-in-Ok-clause-few
returns-in-Ok-clause-few g c = omega (arith, c.in-Ok.ensures.few, ap (λ (v : View). length v.taken) c.finish.ensures.finished.view)

-- ---- nothing added
pub returns-then-is_empty-clause-shape : goal.returns-then-is_empty-clause-shape
returns-then-is_empty-clause-shape g c = sym (with-nothing c.args.side (shape_of c.args.root.now) (length c.args.bytes.now) (none-bytes (length c.args.bytes.now) c.is_empty.result c.is_empty.ensures c.if-is_empty.true))

pub returns-then-is_empty-clause-text : goal.returns-then-is_empty-clause-text
returns-then-is_empty-clause-text g c = sym (beside-none c.args.side (text c.args.root.now) c.args.bytes.now (none-bytes (length c.args.bytes.now) c.is_empty.result c.is_empty.ensures c.if-is_empty.true))

pub returns-then-is_empty-clause-made : goal.returns-then-is_empty-clause-made
returns-then-is_empty-clause-made g c = made-nothing c.args.side c.args.root.now c.args.w.now (length c.args.bytes.now) (none-bytes (length c.args.bytes.now) c.is_empty.result c.is_empty.ensures c.if-is_empty.true)

pub returns-then-is_empty-clause-few : goal.returns-then-is_empty-clause-few
returns-then-is_empty-clause-few g c = omega arith

pub returns-then-is_empty-clause-high : goal.returns-then-is_empty-clause-high
returns-then-is_empty-clause-high g c = λ high. absurd (omega (arith, high, ap level (with-nothing c.args.side (shape_of c.args.root.now) (length c.args.bytes.now) (none-bytes (length c.args.bytes.now) c.is_empty.result c.is_empty.ensures c.if-is_empty.true)), c.requires.tree.low))
