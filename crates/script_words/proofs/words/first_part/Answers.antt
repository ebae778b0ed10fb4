-- The search's answer is the cut's place.
use Rattle.script_words.proofs.Searches.{cut_nowhere, cut_first}
use Rattle.script_words.proofs.words.first_part.Goals as goal

pub returns-in-None : goal.returns-in-None
returns-in-None c = cut_nowhere c.args.separator c.args.bytes.now c.in-None.ensures

pub returns-in-Some : goal.returns-in-Some
returns-in-Some c = cut_first c.args.separator c.args.bytes.now c.in-Some.i c.in-Some.ensures
