-- A session by itself: its lines, and what it did on the board, whatever the others do.
use Rattle.std.specs.Prelude.{◌≡◌, ℕ, ◌+◌, ◌⊎◌, List, [], ◌∷◌, ◌++◌, map, length}
use Rattle.plain_cord.specs.declared.deed.Deed.{Deed}
use Rattle.plain_cord.specs.Alone.{is_some_action}
use Rattle.plain_cord.specs.Deeds.{IsLegal, cells_after, entry_of}
use Rattle.cord_steps.specs.Cords.{Cord, Names}
use Rattle.cord_steps.specs.Runs.{Line}
use Rattle.cord_steps.specs.Sessions.{Options, Session, Cells}
use Rattle.cord_steps.specs.Steps.{IsStep}
use Rattle.cord_runs.specs.Runs.{acts}

-- Lines with what they did on the board in that order, whatever lines, states and items are. `Steps` says it of one line.
module _ {S L C : Type 0} (Steps : ℕ → S → L → List (Deed C) → S → Type 0) where
  abbrev pub AllAlone : ℕ → S → List L → List (Deed C) → S → Type 0
  AllAlone p state [] did after = (did ≡ []) × (after ≡ state)
  AllAlone p state (line ∷ more) did after = (mid : S) × (now : List (Deed C)) × (later : List (Deed C)) × (did ≡ now ++ later)
      × Steps p state line now mid × AllAlone p mid more later after

abbrev pub size_of : Cord → ℕ
size_of c = length c.bytes

-- one line of the session p with what it did on the board, at most one action: over any cells in which it found that, it is what
-- the request may do, with this answer
pub record StepsAlone {Report : Type 0} (options : Options) (p : ℕ) (s : Session) (line : Line Report) (now : List (Deed Cord)) (after : Session)
    : Type 0 where
  pub acted : acts line ≡ is_some_action now
  pub short : (now ≡ []) ⊎ ((d : Deed Cord) × (now ≡ d ∷ []))
  pub steps : (cells : Cells) → length cells ≡ 64 → IsLegal cells now
      → IsStep options p s cells line.0 line.1 (record { state = after; cells = cells_after cells now; entries = map (entry_of size_of) now })

-- all lines, with what they did in that order
abbrev pub RunsAlone : {Report : Type 0} → Options → ℕ → Session → List (Line Report) → List (Deed Cord) → Session → Type 0
RunsAlone options = AllAlone (StepsAlone options)

-- ---- what a session has after an action

-- the same names, name by name
abbrev pub AreNames : Names → Names → Type 0
AreNames names others = (a : List ℕ) → names a ≡ others a

-- the session with these names, after one action more
abbrev pub acted_with : Session → Names → Session
acted_with s names = record s { names = names; acted = s.acted + 1 }
