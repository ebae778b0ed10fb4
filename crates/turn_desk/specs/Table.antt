-- The rule of the table under a desk: a word for each turn, a slot for each value, and what each seat knows.
use Rattle.std.specs.Prelude.{◌≡◌, ℕ, List, map, Option, Some, None}
use mathlib.Core.Option.{some, none}
use mathlib.Core.Option as maybe
use lib.ListN.{get_elem?}
use Rattle.atomic_table.specs.Table.{State}
use Rattle.turn_desk.specs.declared.knowledge.Knowledge.{Knowledge}
use Rattle.turn_desk.specs.declared.knowledge.Held.{Held}
use Rattle.turn_desk.specs.declared.knowledge.Held.TheVariants.{Nothing, Turn, Gone}
use Rattle.turn_desk.specs.declared.knowledge.Past.{Past}
use Rattle.turn_desk.specs.declared.knowledge.Past.TheVariants.{Fresh, Cut, Joined}
use Rattle.turn_desk.specs.Agreements.{AgreedOnce, AgreedBoth}
use Rattle.turn_desk.specs.Spots.{Spot, home, out}

module _ {X : Type 0} where
  -- the turn's word: 0 while it is free, 1 while it is taken
  abbrev pub word_of : Spot X → ℕ
  word_of (home x) = 0
  word_of (out x) = 1

  abbrev pub slot_of : Spot X → maybe.Option (Option X)
  slot_of (home x) = some (Some x)
  slot_of (out x) = none

  -- what the seat `by` says of the places
  abbrev pub Holds : List (Spot X) → (ℕ → ℕ) → ℕ → Held X → Type 0
  Holds spots owner by Nothing = Unit {0}
  Holds spots owner by Gone = Unit {0}
  Holds spots owner by (Turn place value) = (get_elem? spots place ≡ some (out value)) × (owner place ≡ by)

module _ {X V : Type 0} where
  abbrev pub knowledge_of : Held X → V → Past V → Knowledge X V
  knowledge_of held view past = record { held = held; view = view; past = past }

  -- a pass that has no turn, and was neither divided nor joined
  abbrev pub idle : V → Knowledge X V
  idle view = knowledge_of Nothing view Fresh

  abbrev pub seen_as : Held X → V → Option V
  seen_as Nothing view = Some view
  seen_as (Turn place value) view = Some view
  seen_as Gone view = None

  -- what the desk's rule sees of a seat
  abbrev pub seen : Knowledge X V → Option V
  seen d = seen_as d.held d.view

  -- what was so at the last split or merge
  abbrev pub Was : (List (Spot X) → List (Option V) → Type 0) → Past V → Type 0
  Was agrees Fresh = Unit {0}
  Was agrees (Cut view) = AgreedOnce agrees view
  Was agrees (Joined view second) = AgreedBoth agrees view second

  pub record Kept (agrees : List (Spot X) → List (Option V) → Type 0) (s : State (Option X) (Knowledge X V)) : Type 0 where
    pub spots : List (Spot X)
    pub owner : ℕ → ℕ
    pub words : s.words ≡ map word_of spots
    pub homes : s.homes ≡ map slot_of spots
    pub each : (by : ℕ) (known : Knowledge X V) → get_elem? s.views by ≡ some known → Holds spots owner by known.held
    pub holder : (place : ℕ) (value : X) → get_elem? spots place ≡ some (out value)
        → (by : ℕ) × (known : Knowledge X V) × (get_elem? s.views by ≡ some known) × (known.held ≡ Turn place value)
    pub past : (by : ℕ) (known : Knowledge X V) → get_elem? s.views by ≡ some known → Was agrees known.past
    pub agreed : agrees spots (map seen s.views)
