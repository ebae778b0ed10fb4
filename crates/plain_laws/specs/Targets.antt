-- The name that a command may set, and the cell that it names.
use Rattle.std.specs.Prelude.{ℕ, List, Option, Some, None}
use Rattle.plain_cord.specs.declared.script.Command.{Command}
use Rattle.plain_cord.specs.Outcomes.{Meaning, Sets, Copies, Derives, Edits, Joins, Tells, Asks, Compares, OnCell, Watches, meaning}

abbrev pub set_by : Meaning → Option (List ℕ)
set_by (Sets a bytes) = Some a
set_by (Copies a b) = Some b
set_by (Derives a make b) = Some b
set_by (Edits a change) = Some a
set_by (Joins a b make) = Some a
set_by (Tells a) = None
set_by (Asks a answer) = None
set_by (Compares a b answer) = None
set_by (OnCell act cell a) = Some a
set_by Watches = None

abbrev pub target : Command → Option (List ℕ)
target command = set_by (meaning command)

-- the cell that a command names
abbrev pub cell_in : Meaning → Option ℕ
cell_in (OnCell act cell a) = Some cell
cell_in _ = None

abbrev pub cell_of : Command → Option ℕ
cell_of command = cell_in (meaning command)
