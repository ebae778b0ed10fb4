use Rattle.std.proofs.Common.{◌≡◌, ◌+◌, ◌<◌, sum_by, drop}
use Rattle.chunk_reader.specs.Places.{long, place_in}
use Rattle.chunk_reader.proofs.place.edge_at.Given as goal

abbrev pub invariant-loop-at : goal.invariant-loop-at
invariant-loop-at l =
    let rest = place_in (drop l.at l.edges) l.rest in
    (l.rest < sum_by long (drop l.at l.edges)) × (place_in l.edges l.offset ≡ (l.at + rest.0, rest.1))
