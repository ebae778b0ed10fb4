-- Sessions and cells whose cords have trees just where they must.
use Rattle.std.specs.Prelude.{ℕ, ◌≡◌, ◌<◌, ◌≤◌, List, length, Some}
use Rattle.plain_cord.specs.declared.script.Command.TheVariants as commands
use Rattle.plain_cord.specs.Texts.{text_bytes}
use Rattle.cord_steps.specs.Answers.{Request, Plain, External}
use Rattle.cord_steps.specs.Boarding.{held_in}
use Rattle.cord_steps.specs.Cords.{Cord, IsCord}
use Rattle.cord_steps.specs.Sessions.{Session, Cells}

-- each cord of a name and of a cell
pub record AreWhole (s : Session) (cells : Cells) : Type 0 where
  pub named : (a : List ℕ) (c : Cord) → s.names a ≡ Some c → IsCord c
  pub held : (cell : ℕ) (c : Cord) → held_in cells cell ≡ Some c → IsCord c

-- a new cord has no more bytes than any may have, and an external more than an inline cord
abbrev pub IsWithin : Request → Type 0
IsWithin (Plain (commands.Let a text)) = length (text_bytes text) ≤ 2147483647
IsWithin (Plain (commands.Ext a text)) = (15 < length (text_bytes text)) × (length (text_bytes text) ≤ 2147483647)
IsWithin (External a text) = (15 < length (text_bytes text)) × (length (text_bytes text) ≤ 2147483647)
IsWithin _ = Unit {0}
