-- The facts of `held_edges_may_come` that the check leaves to be shown.
use Rattle.std.proofs.Common.{[], ◌∷◌}
use Rattle.pool_rule.proofs.EdgeSteps.{holds-before}
use Rattle.pool_rule.proofs.edge_marks.held_edges_may_come.Goals as goal

pub returns : goal.returns
returns c = λ root cs s holds held. holds-before cs s (root ∷ []) holds held
