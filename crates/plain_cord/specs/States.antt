-- Cords as byte strings, and the names of a session.
use Rattle.std.specs.Prelude.{◌≡◌, ℕ, List, [], length, Option, Some, None, ◌==◌, if◌then◌else◌}
use Rattle.std.specs.Str.{bytes_eq}

-- a cord: its bytes, and the sum that is expected of them, if any
pub record CordState : Type 0 where
  pub bytes : List ℕ
  pub sum : Option ℕ

-- these bytes, of which no sum is expected
abbrev pub plain : List ℕ → CordState
plain bytes = record { bytes = bytes; sum = None }

abbrev pub empty_cord : CordState
empty_cord = plain []

-- a change that adds or takes away a byte loses the sum; one that does neither is none
abbrev pub changed : CordState → List ℕ → CordState
changed cord bytes = if length bytes == length cord.bytes then cord else plain bytes

-- which names were set, and to which cords
abbrev pub Environment : Type 0
Environment = List ℕ → Option CordState

abbrev pub no_names : Environment
no_names name = None

-- a is this cord, and the other names are what they were
abbrev pub with_name : Environment → List ℕ → CordState → Environment
with_name names a cord = λ name. if bytes_eq a name then Some cord else names name

abbrev pub SameNames : Environment → Environment → Type 0
SameNames names others = (name : List ℕ) → names name ≡ others name
