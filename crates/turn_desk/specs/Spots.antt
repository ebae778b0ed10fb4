-- A place of a desk: its value is at home, or was taken out.
use Rattle.std.specs.Prelude.{ℕ, List, [], ◌∷◌, Option, Some, None, cond, ◌==◌}

pub data Spot (X : Type 0) : Type 0 where
  home : X → Spot X
  out : X → Spot X

-- what a closed desk gives back for a place
abbrev pub at_home : {X : Type 0} → Spot X → Option X
at_home (home x) = Some x
at_home (out x) = None

-- the slot, where the turn's word says that it is free
abbrev pub choice : {X : Type 0} → ℕ → Option X → Option X
choice word slot = cond (word == 0) slot None

abbrev pub chosen_of : {X : Type 0} → List ℕ → List (Option X) → List (Option X)
chosen_of [] xs = []
chosen_of (w ∷ ws) [] = []
chosen_of (w ∷ ws) (x ∷ xs) = choice w x ∷ chosen_of ws xs

-- the values of the slots that have one
abbrev pub values_of : {X : Type 0} → List (Option X) → List X
values_of [] = []
values_of (None ∷ xs) = values_of xs
values_of (Some x ∷ xs) = x ∷ values_of xs
