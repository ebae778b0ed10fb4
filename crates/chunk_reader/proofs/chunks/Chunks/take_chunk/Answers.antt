use Rattle.std.proofs.Common.{length, ap, arith}
use Rattle.chunk_reader.specs.Readings.{Reading}
use Rattle.chunk_reader.proofs.ReadLaws.{read-within}
use Rattle.chunk_reader.proofs.chunks.Chunks.take_chunk.Goals as goal

pub overflow_add-end : goal.overflow_add-end
overflow_add-end c = omega (arith, read-within c.self.inside.source c.self.inside.at c.self.inside.length c.self.inside.chunk.now c.self.invariant, c.self.invariant.small)

pub seek-requires : goal.seek-requires
seek-requires c =
    let is = c.self.invariant in
    omega (arith, read-within c.self.inside.source c.self.inside.at c.self.inside.length c.self.inside.chunk.now is, is.long, ap (λ (r : Reading). length r.bytes) c.self.view_is)
