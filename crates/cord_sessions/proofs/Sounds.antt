-- Each command of a script that was read can be run, and needs an entry at most.
use Rattle.std.proofs.Common.{ℕ, ◌≤◌, List, [], ◌∷◌, length, Option, Some, None, arith}
use Rattle.std.specs.List.{All}
use Rattle.plain_cord.specs.Outcomes.{asked_action}
use Rattle.plain_cord.specs.declared.history.Act.{Act}
use Rattle.plain_cord.specs.declared.script.Command.{Command}
use Rattle.plain_cord.specs.declared.script.Session.{Session}
use Rattle.script_reader.specs.Limits.{IsSoundSession}
use Rattle.script_reader.specs.ScriptSpelling.{commands_in}
use Rattle.cord_seats.specs.Entries.{IsRunnableSession, entries_in, entries_for_all, entries_for_sessions}

pub runnable : (sessions : List Session) → All IsSoundSession sessions → All IsRunnableSession sessions
runnable sessions sound = λ k d inside i e within. ((sound k d inside).commands i e within).within

one-entry : (asked : Option (Act × ℕ)) → entries_in asked ≤ 1
one-entry None = omega arith
one-entry (Some asked) = omega arith

few-entries : (said : List Command) → entries_for_all said ≤ length said
few-entries [] = omega arith
few-entries (command ∷ said) = let one = one-entry (asked_action command) in let more = few-entries said in omega arith

pub few-needed : (sessions : List Session) → entries_for_sessions sessions ≤ commands_in sessions
few-needed [] = omega arith
few-needed (session ∷ sessions) = let one = few-entries session.commands in let more = few-needed sessions in omega arith
