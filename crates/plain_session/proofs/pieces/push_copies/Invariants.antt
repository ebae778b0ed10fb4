-- The piece stands as often as the loop has run, and the room for the rest is still there.
use Rattle.std.proofs.Common.{◌≡◌, ◌+◌, ◌*◌, ◌≤◌, ◌++◌, length, vec_len, vec_capacity}
use Rattle.plain_cord.specs.Texts.{repeated}
use Rattle.plain_session.proofs.pieces.push_copies.Given as goal

abbrev pub invariant-loop-i : goal.invariant-loop-i
invariant-loop-i l = (l.bytes.items ≡ l.initial.bytes.items ++ repeated l.piece l._i) × (vec_len l.bytes ≡ vec_len l.initial.bytes + length l.piece * l._i) × (vec_capacity l.initial.bytes ≤ vec_capacity l.bytes)
