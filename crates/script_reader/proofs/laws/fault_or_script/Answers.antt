-- What is read is one or the other.
use Rattle.script_reader.proofs.WholeLaws.{script_or_fault, never_both, fault_is_one}
use Rattle.script_reader.proofs.laws.fault_or_script.Goals as goal

pub returns-clause-one : goal.returns-clause-one
returns-clause-one c = λ bytes. script_or_fault bytes

pub returns-clause-not_both : goal.returns-clause-not_both
returns-clause-not_both c = λ bytes s e h k. never_both bytes s e h k

pub returns-clause-first : goal.returns-clause-first
returns-clause-first c = λ bytes e f h k. fault_is_one bytes e f h k
