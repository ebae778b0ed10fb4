use Rattle.chunk_reader.proofs.PlaceLaws.{placed, only-place}
use Rattle.chunk_reader.proofs.laws.offsets_fall_in_one_edge.Goals as goal

pub returns-clause-found : goal.returns-clause-found
returns-clause-found c = placed

pub returns-clause-only : goal.returns-clause-only
returns-clause-only c = only-place
