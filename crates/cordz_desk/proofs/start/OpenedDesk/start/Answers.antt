-- What the proof of `OpenedDesk::start` needs beyond the search.
use Rattle.cordz_desk.specs.Shares.{tree_in, IsShare}
use Rattle.cordz_desk.proofs.Opens.{opens}
use Rattle.cordz_desk.proofs.start.OpenedDesk.start.Goals as goal

pub start-requires-clause-agrees : goal.start-requires-clause-agrees
start-requires-clause-agrees g c = opens tree_in IsShare _ c.in_ok-values.ensures
