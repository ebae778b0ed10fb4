-- A cord begins with what stands at 0.
use Rattle.std.proofs.Common.{ap}
use Rattle.chunk_reader.specs.Readings.{Reading}
use Rattle.cord_query.proofs.EndLaws.{begins, starts-value}
use Rattle.cord_query.proofs.ends.starts_with.Goals as goal

pub returns-clause-relation : goal.returns-clause-relation
returns-clause-relation g c = begins c.args.cord.now.bytes c.args.text.now c.stands_at.result c.chunks.result.bytes (ap (λ (r : Reading). r.bytes) c.chunks.ensures) c.stands_at.ensures.stands

pub returns-clause-value : goal.returns-clause-value
returns-clause-value g c = starts-value c.args.cord.now.bytes c.args.text.now c.stands_at.result (returns-clause-relation g c)
