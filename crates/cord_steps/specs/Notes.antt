-- Sessions and cells none of whose cords is sampled, and answers without marks.
use Rattle.std.specs.Prelude.{ℕ, ◌≡◌, List, None}
use Rattle.cord_steps.specs.Answers.{Answer, Told, unmarked}
use Rattle.cord_steps.specs.Boarding.{held_in}
use Rattle.cord_steps.specs.Cords.{note_in}
use Rattle.cord_steps.specs.Sessions.{Session, Cells}

-- no cord of a name or of a cell has a record
pub record HaveNoNotes (s : Session) (cells : Cells) : Type 0 where
  pub named : (a : List ℕ) → note_in (s.names a) ≡ None
  pub held : (cell : ℕ) → note_in (held_in cells cell) ≡ None

-- no new record, and none that was given up
abbrev pub HasNoMark : {Report : Type 0} → Answer Report → Type 0
HasNoMark (Told reply) = reply ≡ unmarked reply
HasNoMark _ = Unit {0}
