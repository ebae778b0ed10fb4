-- Both scripts are read from the same bytes.
use Rattle.script_reader.proofs.WholeLaws.{script_is_one}
use Rattle.script_reader.proofs.laws.spellings_differ.Goals as goal

pub returns : goal.returns
returns c = λ bytes s t h k. script_is_one bytes s t h k
