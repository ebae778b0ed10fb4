-- The texts that are appended are printed.
use Rattle.plain_laws.proofs.AppendLaws.{appended-printed}
use Rattle.plain_laws.proofs.runs.appended_texts_are_printed.Goals as goal

pub returns : goal.returns
returns c = λ names now a first said texts replies appends fits run. appended-printed names now a first said texts replies appends fits run
