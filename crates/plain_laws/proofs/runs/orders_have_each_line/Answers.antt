-- Entry by entry of the history.
use Rattle.plain_laws.proofs.OrderedLines.{each-line}
use Rattle.plain_laws.proofs.runs.orders_have_each_line.Goals as goal

pub returns : goal.returns
returns c = λ sessions books history p. each-line sessions books history p
