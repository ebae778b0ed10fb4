-- By induction over the commands.
use Rattle.plain_laws.proofs.CarriedSums.{carried-or-lost, names-carried}
use Rattle.plain_laws.proofs.sums.sums_are_carried_or_lost.Goals as goal

pub returns-clause-carried : goal.returns-clause-carried
returns-clause-carried c = λ names now said replies name run never. names-carried names said replies now name run never

pub returns-clause-lost : goal.returns-clause-lost
returns-clause-lost c = λ names now said replies name old new run never found is. carried-or-lost names said replies now name old new run never found is
