-- No sum is seen.
use Rattle.plain_laws.proofs.SumLaws.{alike-run}
use Rattle.plain_laws.proofs.sums.sums_are_not_seen.Goals as goal

pub returns : goal.returns
returns c = λ names others now later said replies answers same none one other. alike-run names others now later said replies answers same none one other
