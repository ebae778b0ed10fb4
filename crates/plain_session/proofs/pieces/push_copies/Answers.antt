-- Each piece has room, and stands behind the others.
use Rattle.std.proofs.Common.{◌+◌, ◌≤◌, length, vec_len, vec_capacity, append_assoc, arith}
use Rattle.std.proofs.Math.Nat.{mul-suc}
use Rattle.std.proofs.lemmas.Grind.{common_steps}
use Rattle.plain_cord.specs.Texts.{repeated}
use Rattle.plain_session.proofs.Repeats.{repeated-next, next-fits}
use Rattle.plain_session.proofs.pieces.push_copies.Goals as goal

pub unreachable-requires : goal.unreachable-requires
unreachable-requires c =
    let room : vec_len c.loop-i.bytes + length c.args.piece.now ≤ vec_capacity c.loop-i.bytes = omega (arith, next-fits (length c.args.piece.now) c.loop-i._i c.args.times c.loop-i-test.true) in
    grind (arith, common_steps, c.extend_from_slice.ensures.succeeds room)

pub loop-i-preserved : goal.loop-i-preserved
loop-i-preserved c = (
  grind (arith, common_steps, repeated-next c.args.piece.now c.loop-i._i, append_assoc c.args.bytes.now.items (repeated c.args.piece.now c.loop-i._i) c.args.piece.now),
  grind (arith, common_steps, mul-suc (length c.args.piece.now) c.loop-i._i),
  grind (arith, common_steps),
)
