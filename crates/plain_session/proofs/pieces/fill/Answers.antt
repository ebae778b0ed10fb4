-- What resizing adds is the byte so many times.
use Rattle.std.proofs.lemmas.Grind.{common_steps}
use Rattle.std.proofs.Common.{arith}
use Rattle.plain_session.proofs.Repeats.{repeated-byte}
use Rattle.plain_session.proofs.pieces.fill.Goals as goal

pub returns-clause-items : goal.returns-clause-items
returns-clause-items c = grind (arith, common_steps, repeated-byte c.args.byte c.args.times)
