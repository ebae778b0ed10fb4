-- The names of a session and their cords, as the plain step over trees has them.
use Rattle.std.specs.Prelude.{ℕ, ◌≡◌, List, Some, None, option_map, if◌then◌else◌}
use Rattle.std.specs.Str.{bytes_eq}
use Rattle.ordered_names.specs.declared.names.Names.{Names}
use Rattle.ordered_names.specs.Named.{named}
use Rattle.tree_shapes.specs.Cords.{sum_of}
use Rattle.cord_value.specs.Views.{CordView, cord_shape}
use Rattle.cord_steps.specs.Cords.{Cord}
use Rattle.cord_steps.specs.Cords.{Names as StepNames}

-- the cord with its sum and its shape, and without a record
abbrev pub cord_in : CordView → Cord
cord_in c = record { bytes = c.bytes; sum = sum_of (cord_shape c).tree; shape = (cord_shape c).tree; note = None }

abbrev pub names_of : Names CordView → StepNames
names_of names = λ q. option_map cord_in (named names q)

-- each name stands for what it stood for
abbrev pub AreSame : Names CordView → Names CordView → Type 0
AreSame old new = (q : List ℕ) → named new q ≡ named old q

-- a stands for this cord, and each other name for what it stood for
abbrev pub IsSetTo : Names CordView → Names CordView → List ℕ → CordView → Type 0
IsSetTo old new a c = (q : List ℕ) → named new q ≡ (if bytes_eq a q then Some c else named old q)
