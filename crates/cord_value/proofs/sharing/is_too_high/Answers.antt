-- Whether a flat needs a higher tree than there is.
use Rattle.std.proofs.Common.{◌≡◌, length, arith}
use Rattle.tree_shapes.specs.Merge.{across}
use Rattle.tree_shapes.specs.Shape.{level}
use Rattle.node_edges.specs.Trees.{shape_of}
use Rattle.cord_value.proofs.Growth.{some-there}
use Rattle.cord_value.proofs.JoinLaws.{high-full, low-flat, low-room, no-room, same-room, some-room}
use Rattle.cord_value.proofs.sharing.is_too_high.Goals as goal

pub returns-then-level-lt12-clause-low : goal.returns-then-level-lt12-clause-low
returns-then-level-lt12-clause-low c = λ no high.
    absurd (low-flat c.args.side (length c.args.bytes.now) c.args.tree.now c.requires.few c.requires.tree (omega (arith, c.if-level-lt12.true, c.level_of-level.ensures)) high)

pub returns-clause-high : goal.returns-clause-high
returns-clause-high c = λ zero.
    let x = c.args.tree.now in
    let far = across c.args.side in
    let at : level (shape_of x) ≡ 12 = omega (arith, c.if-level-lt12.false, c.level_of-level.ensures, c.requires.tree.low) in
    let same = same-room c.across.result far c.level_of-level.result (level (shape_of x)) (shape_of x) c.across.ensures c.level_of-level.ensures in
    high-full c.args.side (length c.args.bytes.now) x (some-there c.args.bytes.now c.if-is_empty.ensures) c.requires.few c.requires.tree at (omega (arith, same, c.room_at.ensures.room, no-room c.room_at.result zero))

pub returns-clause-low : goal.returns-clause-low
returns-clause-low c = λ more high.
    let x = c.args.tree.now in
    let far = across c.args.side in
    let at : level (shape_of x) ≡ 12 = omega (arith, c.if-level-lt12.false, c.level_of-level.ensures, c.requires.tree.low) in
    let same = same-room c.across.result far c.level_of-level.result (level (shape_of x)) (shape_of x) c.across.ensures c.level_of-level.ensures in
    absurd (low-room c.args.side (length c.args.bytes.now) x (some-there c.args.bytes.now c.if-is_empty.ensures) c.requires.few c.requires.tree at (omega (arith, same, c.room_at.ensures.room, some-room c.room_at.result more)) high)
