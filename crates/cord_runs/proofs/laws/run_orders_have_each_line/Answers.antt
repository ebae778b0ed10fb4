-- The facts of `run_orders_have_each_line` that the check leaves to be shown.
use Rattle.cord_runs.proofs.OrderLaws.{order-lines}
use Rattle.cord_runs.proofs.laws.run_orders_have_each_line.Goals as goal

pub returns : goal.returns
returns g c = order-lines
