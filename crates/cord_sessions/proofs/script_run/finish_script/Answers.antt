-- What the feed read, seen by the spellings and the faults.
use Rattle.script_reader.proofs.Holds.{is_found}
use Rattle.script_reader.proofs.LimitLaws.{is_within}
use Rattle.script_reader.proofs.FirstFault.{is_first}
use Rattle.cord_sessions.proofs.FeedingLaws.{is-free}
use Rattle.cord_sessions.proofs.script_run.finish_script.Goals as goal

pub returns-clause-found : goal.returns-clause-found
returns-clause-found c = λ bytes got. is_found bytes c.finish.result (c.finish.ensures.read bytes got)

pub returns-clause-first : goal.returns-clause-first
returns-clause-first c = λ bytes e got is. is_first bytes c.finish.result e (c.finish.ensures.read bytes got) is

pub returns-clause-limits : goal.returns-clause-limits
returns-clause-limits c =
    let bytes = c.requires.0 in
    is_within bytes c.finish.result (is_found bytes c.finish.result (c.finish.ensures.read bytes c.requires.1))

pub returns-clause-unsampled : goal.returns-clause-unsampled
returns-clause-unsampled c =
    let bytes = c.requires.0 in
    is-free bytes c.finish.result (is_found bytes c.finish.result (c.finish.ensures.read bytes c.requires.1))
