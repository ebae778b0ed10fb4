-- The words ask to check, and no box is called.
use Rattle.std.proofs.Common.{map, string_bytes, subst}
use Rattle.cord_sessions.specs.declared.asked.Asked.{Asked}
use Rattle.cord_sessions.specs.declared.asked.Asked.TheVariants.{Check}
use Rattle.cord_sessions.specs.Asks.{Asks}
use Rattle.cord_sessions.proofs.Says.{asked-says}
use Rattle.cord_sessions.proofs.top.do_asked.Goals as goal

pub returns-in-Some-Check-clause-says : goal.returns-in-Some-Check-clause-says
returns-in-Some-Check-clause-says g c =
    let words = map string_bytes c.args.words.now in
    let asked = subst (λ (command : Asked). Asks words command) c.in-Some-Check.field-0-is c.in-Some-Check.ensures.some in
    asked-says words Check _ c.check_to_end.result asked (c.check_to_end.ensures _)
