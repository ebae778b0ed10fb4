-- What the steps of a turn on the table tell.
use Rattle.std.specs.Prelude.{◌≡◌, ◌≢◌, ℕ, List, [], ◌∷◌, Option, Some}
use Rattle.atomic_table.specs.Table.{Me, Step}
use Rattle.turn_desk.specs.declared.knowledge.Knowledge.{Knowledge}
use Rattle.turn_desk.specs.declared.knowledge.Held.TheVariants.{Nothing, Turn}
use Rattle.turn_desk.specs.Agreements.{Agreed, AgreedOut}
use Rattle.turn_desk.specs.Spots.{Spot, home, out}
use Rattle.turn_desk.specs.Table.{Was}

module _ {X V : Type 0} where
  -- the word was found 0, and the value is out with this pass now; or it was found taken
  abbrev pub entered : (List (Spot X) → List (Option V) → Type 0) → Step (Option X) → Me (Option X) (Knowledge X V) → ℕ → Me (Option X) (Knowledge X V) → Type 0
  entered agrees step before found after =
      (after.0.view ≡ before.0.view)
      × (found ≡ 0 → (value : X) × (after.0.held ≡ Turn step.word value) × (after.1 ≡ (step.word, Some value) ∷ before.1)
      × Agreed agrees step.word (home value) before.0.view)
      × (found ≢ 0 → (after ≡ before) × (found ≡ 1) × AgreedOut agrees step.word before.0.view)

  -- the value that this pass had is at home, and its view has changed as the rule allows
  abbrev pub left :
      (List (Spot X) → List (Option V) → Type 0) → (ℕ → X → X → V → V → Type 0) → Step (Option X) → Me (Option X) (Knowledge X V) → ℕ
      → Me (Option X) (Knowledge X V) → Type 0
  left agrees leaves step before found after =
      (taken given : X) → before.0.held ≡ Turn step.word taken → before.1 ≡ (step.word, Some given) ∷ []
      → (after.0.held ≡ Nothing) × (after.1 ≡ []) × leaves step.word taken given before.0.view after.0.view × Agreed agrees step.word (out taken) before.0.view

  -- the same, where the view is told after which function it has changed
  abbrev pub left_to : (List (Spot X) → List (Option V) → Type 0) → (ℕ → X → X → V → V → Type 0) → (V → V) → Step (Option X) → Me (Option X) (Knowledge X V)
      → ℕ → Me (Option X) (Knowledge X V) → Type 0
  left_to agrees leaves after = left agrees (λ l x y v w. leaves l x y v w × (w ≡ after v))

  -- a load, which tells what was so at the last split or merge
  abbrev pub recalled : (List (Spot X) → List (Option V) → Type 0) → Step (Option X) → Me (Option X) (Knowledge X V) → ℕ
      → Me (Option X) (Knowledge X V) → Type 0
  recalled agrees step before found after = (after ≡ before) × Was agrees before.0.past
