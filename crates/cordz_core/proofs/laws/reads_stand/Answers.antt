-- The law, from its lemma.
use Rattle.cordz_core.proofs.Staying.{head_stands, next_stands}
use Rattle.cordz_core.proofs.laws.reads_stand.Goals as goal

pub returns : goal.returns
returns c = record { head = head_stands; next = next_stands }
