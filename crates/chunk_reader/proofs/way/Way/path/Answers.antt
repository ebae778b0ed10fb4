use Rattle.std.proofs.Common.{ap, ◌∙◌, arith}
use Rattle.chunk_reader.specs.Stops.{Kept, path_in}
use Rattle.chunk_reader.proofs.StopLaws.{path-zipped}
use Rattle.chunk_reader.proofs.way.Way.path.Goals as goal

pub returns : goal.returns
returns c =
    path-zipped c.self.inside.depth c.self.inside.stops c.self.inside.starts (omega (arith, c.self.invariant.places, c.self.invariant.begins))
    ∙ ap (λ (k : Kept). path_in k.stops) c.self.view_is
