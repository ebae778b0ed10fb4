-- The fact of `paths_that_looks_find_are_lone` that the check leaves to be shown.
use Rattle.node_pool.proofs.Marking.{path-found}
use Rattle.node_pool.proofs.laws.paths_that_looks_find_are_lone.Goals as goal

pub returns : goal.returns
returns c = path-found
