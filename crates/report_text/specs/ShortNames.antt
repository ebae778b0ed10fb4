-- Sessions whose own name and whose commands' names have at most 16 bytes each.
use Rattle.std.specs.Prelude.{ℕ, ◌≤◌, List, length}
use Rattle.std.specs.List.{All}
use Rattle.plain_cord.specs.declared.script.Command.{Command}
use Rattle.plain_cord.specs.declared.script.Session.{Session}
use Rattle.script_words.specs.Forms.{names_in}

abbrev pub IsShortName : List ℕ → Type 0
IsShortName name = length name ≤ 16

abbrev pub AreShortNames : Command → Type 0
AreShortNames command = All IsShortName (names_in command)

pub record HasShortNames (session : Session) : Type 0 where
  pub name : IsShortName session.name
  pub commands : All AreShortNames session.commands
