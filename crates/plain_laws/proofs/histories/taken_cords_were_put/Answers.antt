-- After each line of the run, what lies in a cell was put there by one of them.
use Rattle.plain_laws.proofs.PutLaws.{was-put}
use Rattle.plain_laws.proofs.histories.taken_cords_were_put.Goals as goal

pub returns : goal.returns
returns c = λ sessions books history done rest p line name cell run order does. was-put sessions books history done rest p line name cell run order does
