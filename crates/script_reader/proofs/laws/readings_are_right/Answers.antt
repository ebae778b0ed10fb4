-- Read and spelled, faulty and told.
use Rattle.script_reader.proofs.Holds.{read_is_spelled}
use Rattle.script_reader.proofs.FirstFault.{fault_found, fault_again}
use Rattle.script_reader.proofs.laws.readings_are_right.Goals as goal

pub returns-clause-script : goal.returns-clause-script
returns-clause-script c = λ bytes s e. read_is_spelled bytes s e

pub returns-clause-fault : goal.returns-clause-fault
returns-clause-fault c = λ bytes e is. fault_found bytes e is

pub returns-clause-told : goal.returns-clause-told
returns-clause-told c = λ bytes e h. fault_again bytes e h
