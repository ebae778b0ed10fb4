-- Lists of steps, one after another, with the answer to each.
use Rattle.std.specs.Prelude.{◌≡◌, Bool, List, [], ◌∷◌}
use Rattle.count_core.specs.Steps.{State, Step, Does}

-- one step that was tried: the world before it, the answer, and the world after it
pub record Moment : Type 0 where
  pub before : State
  pub step : Step
  pub done : Bool
  pub next : State

-- from the world w the steps lead to the world x
abbrev pub IsRun : State → List Moment → State → Type 0
IsRun w [] x = x ≡ w
IsRun w (m ∷ ms) x = (m.before ≡ w) × Does m.step m.before m.done m.next × IsRun m.next ms x
