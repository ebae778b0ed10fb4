-- The law, from its lemma.
use Rattle.desk_laws.proofs.EndLaws.{reads_told}
use Rattle.desk_laws.proofs.laws.read_notes_were_told.Goals as goal

pub returns : goal.returns
returns g c = reads_told
