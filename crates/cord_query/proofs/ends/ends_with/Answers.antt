-- A cord ends with what stands so many bytes before its end.
use Rattle.std.proofs.Common.{ℕ, ◌-◌, length, ap}
use Rattle.chunk_reader.specs.Readings.{Reading}
use Rattle.cord_query.proofs.EndLaws.{ends, ends-value}
use Rattle.cord_query.proofs.ends.ends_with.Goals as goal

pub returns-then-length-size-clause-relation : goal.returns-then-length-size-clause-relation
returns-then-length-size-clause-relation g c =
    ends c.args.cord.now.bytes c.args.text.now c.stands_at.result c.chunks.result.bytes (ap (λ (r : Reading). r.bytes) c.chunks.ensures)
    (c.len-size.result - length c.args.text.now) (ap (λ (n : ℕ). n - length c.args.text.now) c.len-size.ensures.len) c.stands_at.ensures.stands

pub returns-then-length-size-clause-value : goal.returns-then-length-size-clause-value
returns-then-length-size-clause-value g c = ends-value c.args.cord.now.bytes c.args.text.now c.stands_at.result (returns-then-length-size-clause-relation g c)
