-- Each line that is spelled is within them.
use Rattle.script_reader.proofs.LimitLaws.{spelled_within}
use Rattle.script_reader.proofs.laws.spelled_script_is_within_limits.Goals as goal

pub returns : goal.returns
returns c = λ bytes s h. spelled_within bytes s h
