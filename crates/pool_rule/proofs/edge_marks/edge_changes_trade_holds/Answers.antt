-- The facts of `edge_changes_trade_holds` that the check leaves to be shown.
use Rattle.pool_rule.proofs.EdgeMarks.{mark-trades}
use Rattle.pool_rule.proofs.edge_marks.edge_changes_trade_holds.Goals as goal

pub returns : goal.returns
returns c = λ root path cs v is. mark-trades root path cs v is.0 is.1
