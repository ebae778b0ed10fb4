-- Read again.
use Rattle.script_reader.proofs.Runs.{spelled_is_read}
use Rattle.script_reader.proofs.laws.spelled_script_is_read.Goals as goal

pub returns : goal.returns
returns c = λ bytes s h. spelled_is_read bytes s h
