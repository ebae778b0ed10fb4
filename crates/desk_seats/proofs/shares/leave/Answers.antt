-- What the proof of `leave` needs beyond the search.
use Rattle.node_edges.proofs.WayLaws.{whole-down}
use Rattle.desk_seats.proofs.shares.leave.Goals as goal

pub finish-requires-clause-short : goal.finish-requires-clause-short
finish-requires-clause-short g c = whole-down c.args.edge.now c.requires.formed
