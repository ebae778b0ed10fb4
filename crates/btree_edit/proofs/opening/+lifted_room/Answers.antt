-- What the proof of `lifted_room` needs beyond the search.
use Rattle.std.proofs.Common.{◌≡◌, ℕ, suc, ◌-◌, ◌≤◌, sym, ap, ◌∙◌, arith}
use Rattle.node_edges.specs.Trees.{shape_of}
use Rattle.tree_shapes.specs.Room.{most_under}
use Rattle.btree_edit.proofs.GrowLaws.{room-lifted_none, room-lifted_more}
use Rattle.btree_node.proofs.WidthLaws.{most-suc, most-small}
use Rattle.btree_edit.proofs.opening.+lifted_room.Goals as goal

pub returns-then-level-base-clause-room : goal.returns-then-level-base-clause-room
returns-then-level-base-clause-room t c = c.room_at.ensures.room ∙ sym (room-lifted_none c.args.side (shape_of c.args.edge.now) c.args.base c.args.level c.if-level-base.true)

pub overflow_mul-result : goal.overflow_mul-result
overflow_mul-result t c = omega (arith, c.most_under.ensures, most-small (c.args.level - 1) (omega (arith, c.requires.low)))

pub overflow_add-result : goal.overflow_add-result
overflow_add-result t c = omega (arith, c.lifted_room.ensures.less, c.most_under.ensures, most-small (c.args.level - 1) (omega (arith, c.requires.low)))

pub returns-clause-room : goal.returns-clause-room
returns-clause-room t c =
    let h : ℕ = c.args.level - 1 in
    let le : c.args.base ≤ h = omega (arith, c.requires.above, c.if-level-base.false) in
    let up : c.args.level ≡ suc h = omega (arith, c.requires.above, c.if-level-base.false) in
    omega (arith, room-lifted_more c.args.side (shape_of c.args.edge.now) c.args.base c.args.level h c.requires.tree.at le up, c.lifted_room.ensures.room, c.most_under.ensures)

pub returns-clause-less : goal.returns-clause-less
returns-clause-less t c =
    let h : ℕ = c.args.level - 1 in
    let up : c.args.level ≡ suc h = omega (arith, c.requires.above, c.if-level-base.false) in
    omega (arith, ap most_under up, most-suc h, c.lifted_room.ensures.less, c.most_under.ensures)
