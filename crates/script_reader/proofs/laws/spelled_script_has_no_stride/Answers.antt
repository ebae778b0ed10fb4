-- No line of it gives one.
use Rattle.script_reader.proofs.StrideLaws.{spelled_free}
use Rattle.script_reader.proofs.laws.spelled_script_has_no_stride.Goals as goal

pub returns : goal.returns
returns c = λ bytes s h. spelled_free bytes s h
