-- What a call tells: at its step the values and all views agreed, and these were among them.
use Rattle.std.specs.Prelude.{◌≡◌, ◌≢◌, ℕ, List, Option, Some}
use mathlib.Core.Option.{some}
use lib.ListN.{get_elem?}
use Rattle.turn_desk.specs.Spots.{Spot, out}

-- the view of the pass `by` is among them
abbrev pub IsViewOf : {V : Type 0} → List (Option V) → ℕ → V → Type 0
IsViewOf views by view = get_elem? views by ≡ some (Some view)

module _ {X V : Type 0} where
  -- this view
  abbrev pub AgreedOnce : (List (Spot X) → List (Option V) → Type 0) → V → Type 0
  AgreedOnce agrees view = (spots : List (Spot X)) × (views : List (Option V)) × (by : ℕ) × agrees spots views × IsViewOf views by view

  -- both views, of two passes
  abbrev pub AgreedBoth : (List (Spot X) → List (Option V) → Type 0) → V → V → Type 0
  AgreedBoth agrees view second =
      (spots : List (Spot X)) × (views : List (Option V)) × (by : ℕ) × (other : ℕ)
      × agrees spots views × IsViewOf views by view × IsViewOf views other second × (other ≢ by)

  -- this value at its place, and this view
  abbrev pub Agreed : (List (Spot X) → List (Option V) → Type 0) → ℕ → Spot X → V → Type 0
  Agreed agrees place spot view =
      (spots : List (Spot X)) × (views : List (Option V)) × (by : ℕ)
      × agrees spots views × (get_elem? spots place ≡ some spot) × IsViewOf views by view

  -- the value of this place was out, and this view
  abbrev pub AgreedOut : (List (Spot X) → List (Option V) → Type 0) → ℕ → V → Type 0
  AgreedOut agrees place view = (value : X) × Agreed agrees place (out value) view
