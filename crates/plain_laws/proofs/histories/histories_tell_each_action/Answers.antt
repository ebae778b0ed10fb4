-- Each line of the run tells its action, if it is one.
use Rattle.plain_laws.proofs.ActionLaws.{each-action}
use Rattle.plain_laws.proofs.histories.histories_tell_each_action.Goals as goal

pub returns : goal.returns
returns c = λ sessions books history p run. each-action sessions books history p run
