-- What is seen of a desk and its passes.
use Rattle.std.specs.Prelude.{◌≡◌, ◌≢◌, ℕ, ◌<◌, List, [], ◌∷◌, map, Option, Some, None}
use mathlib.Core.Option.{some}
use lib.ListN.{get_elem?}
use Rattle.atomic_table.specs.declared.shared.Seat.{Seat}
use Rattle.turn_desk.specs.declared.desk.Desk.{Desk}
use Rattle.turn_desk.specs.declared.knowledge.Knowledge.{Knowledge}
use Rattle.turn_desk.specs.declared.knowledge.Held.{Held}
use Rattle.turn_desk.specs.declared.knowledge.Held.TheVariants.{Nothing, Turn}
use Rattle.turn_desk.specs.declared.turn.TakenOut.{TakenOut}
use Rattle.turn_desk.specs.Spots.{Spot, out, at_home}
use Rattle.turn_desk.specs.Turns.{turn_place, turn_value, taken_value}

-- how many values a desk has
abbrev pub desk_places : {T X V A : Type 0} → Desk T X V A → ℕ
desk_places d = d.table.shared.table_id.slots

module _ {X V : Type 0} where
  -- the pass is of this desk
  abbrev pub IsOf : {T A : Type 0} → Desk T X V A → Seat (Option X) (Knowledge X V) → Type 0
  IsOf d p = p.table_id ≡ d.table.shared.table_id

  -- what the rule sees of a pass
  abbrev pub desk_view : Seat (Option X) (Knowledge X V) → V
  desk_view p = p.me.0.view

  -- the same pass, before and after
  abbrev pub IsSamePass : Seat (Option X) (Knowledge X V) → Seat (Option X) (Knowledge X V) → Type 0
  IsSamePass p q = (q.table_id ≡ p.table_id) × (q.id ≡ p.id)

  -- a pass that has no turn
  abbrev pub IsIdle : Seat (Option X) (Knowledge X V) → Type 0
  IsIdle p = (p.me.0.held ≡ Nothing) × (p.me.1 ≡ [])

  -- a pass that has the turn of a place, where this value was taken out
  abbrev pub HasTurn : Seat (Option X) (Knowledge X V) → ℕ → X → Type 0
  HasTurn p place value = (place < p.table_id.slots) × (p.me.0.held ≡ Turn place value) × (p.me.1 ≡ (place, None) ∷ [])

  -- the turn of a place, as it was taken out, which the pass has
  abbrev pub IsTurnOf : ℕ → Seat (Option X) (Knowledge X V) → TakenOut X → Type 0
  IsTurnOf place p turn = (turn_place turn ≡ place) × (turn_value turn ≡ taken_value turn) × HasTurn p place (taken_value turn)

  -- the last state: these values were at home, and each other one was out with the pass that had its turn, one other than this
  pub record Ended (agrees : List (Spot X) → List (Option V) → Type 0) (p : Seat (Option X) (Knowledge X V)) (values : List (Option X)) : Type 0 where
    pub spots : List (Spot X)
    pub views : List (Option V)
    -- what each pass had
    pub turns : List (Held X)
    pub agreed : agrees spots views
    pub mine : get_elem? views p.id ≡ some (Some (desk_view p))
    pub idle : get_elem? turns p.id ≡ some Nothing
    pub given : values ≡ map at_home spots
    pub others : (place : ℕ) (value : X) → get_elem? spots place ≡ some (out value)
        → (by : ℕ) × (view : V) × (by ≢ p.id) × (get_elem? views by ≡ some (Some view)) × (get_elem? turns by ≡ some (Turn place value))
    pub taken : (by place : ℕ) (value : X) → get_elem? turns by ≡ some (Turn place value) → get_elem? spots place ≡ some (out value)
