use Rattle.chunk_reader.proofs.RestLaws.{rest-some, rest-next}
use Rattle.chunk_reader.proofs.laws.chunks_are_what_comes_next.Goals as goal

pub returns-clause-some : goal.returns-clause-some
returns-clause-some c = rest-some

pub returns-clause-next : goal.returns-clause-next
returns-clause-next c = rest-next
