-- Bytes behind a cord: too many, or none.
use Rattle.std.proofs.Common.{◌++◌, arith}
use Rattle.plain_cord.specs.Texts.{repeated}
use Rattle.plain_session.specs.States.{state_of}
use Rattle.plain_session.proofs.Grows.{grown-long, grown-same, length-behind}
use Rattle.plain_session.proofs.cord.PlainCord.append.Goals as goal

pub returns-then-asked-gt-MOST_BYTES-clause-ok : goal.returns-then-asked-gt-MOST_BYTES-clause-ok
returns-then-asked-gt-MOST_BYTES-clause-ok c =
    grown-long (state_of c.args.self.now) _ _ (omega (arith, length-behind c.args.self.now.bytes.items c.args.piece.now c.args.times)) c.if-asked-gt-MOST_BYTES.true

pub returns-then-added-eq0-clause-ok : goal.returns-then-added-eq0-clause-ok
returns-then-added-eq0-clause-ok c =
    rw c.done.ensures (grown-same (state_of c.args.self.now) (c.args.self.now.bytes.items ++ repeated c.args.piece.now c.args.times) (omega (arith, length-behind c.args.self.now.bytes.items c.args.piece.now c.args.times)) (omega (arith, length-behind c.args.self.now.bytes.items c.args.piece.now c.args.times)))
