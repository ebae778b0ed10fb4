-- Sessions that can be run, and the entries that their commands may need.
use Rattle.std.specs.Prelude.{ℕ, ◌+◌, List, [], ◌∷◌, Option, Some, None}
use Rattle.std.specs.List.{All}
use Rattle.plain_cord.specs.declared.history.Act.{Act}
use Rattle.plain_cord.specs.declared.script.Command.{Command}
use Rattle.plain_cord.specs.declared.script.Session.{Session}
use Rattle.plain_cord.specs.Outcomes.{asked_action}
use Rattle.script_words.specs.Forms.{IsWithin}

abbrev pub IsRunnableSession : Session → Type 0
IsRunnableSession session = All IsWithin session.commands

abbrev pub entries_in : Option (Act × ℕ) → ℕ
entries_in None = 0
entries_in (Some asked) = 1

abbrev pub entries_for : Command → ℕ
entries_for command = entries_in (asked_action command)

abbrev pub entries_for_all : List Command → ℕ
entries_for_all [] = 0
entries_for_all (command ∷ more) = entries_for command + entries_for_all more

abbrev pub entries_for_sessions : List Session → ℕ
entries_for_sessions [] = 0
entries_for_sessions (session ∷ sessions) = entries_for_all session.commands + entries_for_sessions sessions
