use Rattle.node_forest.specs.Forest.{below}
use Rattle.cordz_stats.proofs.Totals.{five_kinds}
use Rattle.cordz_stats.proofs.laws.nodes_are_of_five_kinds.Goals as goal

pub returns : goal.returns
returns c = λ s. five_kinds (below s)
