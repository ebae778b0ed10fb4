-- The limits within which each script is that was read.
use Rattle.std.specs.Prelude.{◌≤◌, length}
use Rattle.std.specs.List.{All, AllByRecursion}
use Rattle.plain_cord.specs.declared.script.Command.{Command}
use Rattle.plain_cord.specs.declared.script.Session.{Session}
use Rattle.plain_cord.specs.declared.script.Script.{Script}
use Rattle.script_words.specs.Spelling.{IsName}
use Rattle.script_words.specs.Forms.{IsWithin, names_in}
use Rattle.script_reader.specs.ScriptSpelling.{NamesDiffer, commands_in}

-- a command with sound names, and texts and numbers within the limits
pub record IsSoundCommand (command : Command) : Type 0 where
  pub names : AllByRecursion IsName (names_in command)
  pub within : IsWithin command

pub record IsSoundSession (session : Session) : Type 0 where
  pub name : IsName session.name
  pub commands : All IsSoundCommand session.commands

pub record IsWithinLimits (script : Script) : Type 0 where
  pub some_pool : 1 ≤ script.pool
  pub pool : script.pool ≤ 262144
  pub some_passes : 1 ≤ script.passes
  pub passes : script.passes ≤ 262144
  pub stride : script.stride ≤ 1000000
  pub sessions : All IsSoundSession script.sessions
  pub differ : NamesDiffer script.sessions
  pub few : length script.sessions ≤ 16
  pub short : commands_in script.sessions ≤ 16384
