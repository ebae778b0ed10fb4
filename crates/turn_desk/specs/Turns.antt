-- What is seen of a turn: its place, its value, and the value as it was taken out.
use Rattle.std.specs.Prelude.{ℕ}
use Rattle.turn_desk.specs.declared.turn.TakenOut.{TakenOut}

module _ {X : Type 0} where
  abbrev pub turn_place : TakenOut X → ℕ
  turn_place turn = turn.place

  abbrev pub turn_value : TakenOut X → X
  turn_value turn = turn.value

  abbrev pub taken_value : TakenOut X → X
  taken_value turn = turn.taken.value

  -- the same turn with this value
  abbrev pub with_value : TakenOut X → X → TakenOut X
  with_value turn value = record turn { value = value }
