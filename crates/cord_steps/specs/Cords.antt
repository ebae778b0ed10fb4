-- Cords as a run over trees has them: bytes, sum, shape and the note of a record.
use Rattle.std.specs.Prelude.{ℕ, ◌≡◌, List, [], length, Option, Some, None, option_map, if◌then◌else◌}
use Rattle.std.specs.Str.{bytes_eq}
use Rattle.plain_cord.specs.States.{CordState, Environment}
use Rattle.tree_shapes.specs.Cords.{CordShape, sum_of, IsCordShape}
use Rattle.tree_shapes.specs.Shape.{Shape}

-- the record of a sampled cord: its stamp, and how many changes there were since
pub record Note : Type 0 where
  pub stamp : ℕ
  pub update : ℕ

pub record Cord : Type 0 where
  pub bytes : List ℕ
  pub sum : Option ℕ
  pub shape : Option Shape
  pub note : Option Note

abbrev pub no_bytes : Cord
no_bytes = record { bytes = []; sum = None; shape = None; note = None }

-- the cord as a byte string
abbrev pub plain_of : Cord → CordState
plain_of c = record { bytes = c.bytes; sum = c.sum }

-- what the rules of shapes see of it
abbrev pub shape_of : Cord → CordShape
shape_of c = record { size = length c.bytes; tree = c.shape }

-- There is a tree exactly where there are more than 15 bytes or a sum; it is well formed and says the sum. Only a tree has a record.
pub record IsCord (c : Cord) : Type 0 where
  pub whole : IsCordShape (shape_of c)
  pub sum : c.sum ≡ sum_of c.shape
  pub noted : c.shape ≡ None → c.note ≡ None

-- which names were set, and to which cords
abbrev pub Names : Type 0
Names = List ℕ → Option Cord

abbrev pub plain_names : Names → Environment
plain_names names = λ name. option_map plain_of (names name)

-- a has this cord, if any, and the other names are what they were
abbrev pub naming : Names → List ℕ → Option Cord → Names
naming names a cord = λ name. if bytes_eq a name then cord else names name

-- the shape and the note of a name's cord; where it was never set, those of no bytes
abbrev pub shape_in : Option Cord → CordShape
shape_in None = shape_of no_bytes
shape_in (Some c) = shape_of c

abbrev pub note_in : Option Cord → Option Note
note_in None = None
note_in (Some c) = c.note

abbrev pub stamp_in : Option Cord → Option ℕ
stamp_in o = option_map (λ n. n.stamp) (note_in o)
