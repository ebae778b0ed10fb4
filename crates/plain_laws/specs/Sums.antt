-- Environments that differ in their sums alone.
use Rattle.std.specs.Prelude.{◌≡◌, ℕ, List, Option}
use Rattle.std.specs.Option.{option_map}
use Rattle.plain_cord.specs.declared.script.Command.{Command}
use Rattle.plain_cord.specs.States.{Environment}
use Rattle.plain_cord.specs.Outcomes.{Meaning, Copies, Edits, Sums, Tells, meaning}

-- the bytes of a name's cord
abbrev pub bytes_at : Environment → List ℕ → Option (List ℕ)
bytes_at names a = option_map (λ cord. cord.bytes) (names a)

abbrev pub SameBytes : Environment → Environment → Type 0
SameBytes names others = (a : List ℕ) → bytes_at names a ≡ bytes_at others a

-- a command that tells a sum
abbrev pub IsTelling : Meaning → Type 0
IsTelling (Tells a) = Unit {0}
IsTelling _ = ⊥

abbrev pub AsksSum : Command → Type 0
AsksSum command = IsTelling (meaning command)

-- a command that may give a name a sum: it sets the sum, or copies a cord
abbrev pub IsGiving : List ℕ → Meaning → Type 0
IsGiving name (Edits a (Sums value)) = a ≡ name
IsGiving name (Copies a b) = b ≡ name
IsGiving name _ = ⊥

abbrev pub GivesSum : List ℕ → Command → Type 0
GivesSum name command = IsGiving name (meaning command)
