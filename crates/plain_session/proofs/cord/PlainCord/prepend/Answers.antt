-- Bytes in front of a cord: too many, or none.
use Rattle.std.proofs.Common.{◌++◌, arith}
use Rattle.plain_cord.specs.Texts.{repeated}
use Rattle.plain_session.specs.States.{state_of}
use Rattle.plain_session.proofs.Grows.{grown-long, grown-same, length-in_front}
use Rattle.plain_session.proofs.cord.PlainCord.prepend.Goals as goal

pub returns-then-asked-gt-MOST_BYTES-clause-ok : goal.returns-then-asked-gt-MOST_BYTES-clause-ok
returns-then-asked-gt-MOST_BYTES-clause-ok c =
    grown-long (state_of c.args.self.now) _ _ (omega (arith, length-in_front c.args.self.now.bytes.items c.args.piece.now c.args.times)) c.if-asked-gt-MOST_BYTES.true

pub returns-then-added-eq0-clause-ok : goal.returns-then-added-eq0-clause-ok
returns-then-added-eq0-clause-ok c =
    rw c.done.ensures (grown-same (state_of c.args.self.now) (repeated c.args.piece.now c.args.times ++ c.args.self.now.bytes.items) (omega (arith, length-in_front c.args.self.now.bytes.items c.args.piece.now c.args.times)) (omega (arith, length-in_front c.args.self.now.bytes.items c.args.piece.now c.args.times)))
