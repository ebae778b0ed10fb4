-- The facts of `marks_keep_the_rule` that the check leaves to be shown.
use Rattle.pool_rule.proofs.MarkSteps.{marks}
use Rattle.pool_rule.proofs.marks.marks_keep_the_rule.Goals as goal

pub returns : goal.returns
returns g c = λ p slots id me root path changes worker can lone. marks p slots id me worker root path changes can lone
