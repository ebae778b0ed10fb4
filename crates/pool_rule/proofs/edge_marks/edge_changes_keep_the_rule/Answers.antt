-- The facts of `edge_changes_keep_the_rule` that the check leaves to be shown.
use Rattle.pool_rule.proofs.EdgeSteps.{edge_marks}
use Rattle.pool_rule.proofs.edge_marks.edge_changes_keep_the_rule.Goals as goal

pub returns : goal.returns
returns g c = λ p slots id me root path changes worker can lone. edge_marks p slots id me worker root path changes can lone
