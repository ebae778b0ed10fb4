-- A session by itself: its lines, and what it did on the board, whatever the others do.
use Rattle.std.specs.Prelude.{◌≡◌, ℕ, ◌⊎◌, List, [], ◌∷◌, ◌++◌, Bool, true, false, map, length}
use Rattle.plain_cord.specs.declared.deed.Deed.{Deed}
use Rattle.plain_cord.specs.States.{CordState}
use Rattle.plain_cord.specs.Deeds.{IsLegal, cells_after, entry_of}
use Rattle.plain_cord.specs.Effects.{SessionState, Cells, size_of, PlainEffect}
use Rattle.plain_cord.specs.RunOrders.{Line, acts}

abbrev pub is_some_action : {X : Type 0} → List X → Bool
is_some_action [] = false
is_some_action (x ∷ xs) = true

-- one line of the session p with what it did on the board, at most one action: over any cells in which it found that, it is what the command may do
pub record StepsAlone (p : ℕ) (state : SessionState) (line : Line) (now : List (Deed CordState)) (after : SessionState) : Type 0 where
  pub acted : acts line.0 line.1 ≡ is_some_action now
  pub short : (now ≡ []) ⊎ ((d : Deed CordState) × (now ≡ d ∷ []))
  pub plain : (cells : Cells) → length cells ≡ 64 → IsLegal cells now
      → PlainEffect p state cells line.0 (record { state = after; cells = cells_after cells now; entries = map (entry_of size_of) now; reply = line.1 })

-- all lines, with what they did in that order
abbrev pub RunsAlone : ℕ → SessionState → List Line → List (Deed CordState) → SessionState → Type 0
RunsAlone p state [] did after = (did ≡ []) × (after ≡ state)
RunsAlone p state (line ∷ more) did after = (mid : SessionState) × (now : List (Deed CordState)) × (later : List (Deed CordState)) × (did ≡ now ++ later)
    × StepsAlone p state line now mid × RunsAlone p mid more later after
