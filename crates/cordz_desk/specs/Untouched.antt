-- The state of a table whose one slot has the value that was put in.
use Rattle.std.specs.Prelude.{◌≡◌, [], ◌∷◌}
use mathlib.Core.Option.{some}
use Rattle.std.specs.declared.snapshot.Snapshot.{Snapshot}
use Rattle.atomic_table.specs.Table.{State}

abbrev pub IsUntouched : {X : Type 0} → Snapshot X → State X (Unit {0}) → Type 0
IsUntouched seen s = s.homes ≡ some seen.value ∷ []
