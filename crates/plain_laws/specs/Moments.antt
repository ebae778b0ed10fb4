-- The moments of a run, and which line brought the cord that lies in a cell.
use Rattle.std.specs.Prelude.{◌≡◌, ℕ, List, [], ◌∷◌, ◌++◌, All, Option, Some, None}
use Rattle.plain_cord.specs.declared.script.Command.{Command}
use Rattle.plain_cord.specs.declared.script.Command.TheVariants as commands
use Rattle.plain_cord.specs.States.{CordState}
use Rattle.plain_cord.specs.Deeds.{empty_cells}
use Rattle.plain_cord.specs.Effects.{SessionState, new_session, Cells, Effect, effect}
use Rattle.plain_cord.specs.RunOrders.{Line, replaced}
use Rattle.plain_laws.specs.Refusals.{IsRefusal}

-- the sessions and the cells between two commands of a run
pub record Moment : Type 0 where
  pub states : ℕ → SessionState
  pub cells : Cells

-- no name is set, and the cells are empty
abbrev pub beginning : Moment
beginning = record { states = λ p. new_session; cells = empty_cells }

-- after an effect of the session p, if there was one
abbrev pub changed_by : Moment → ℕ → Option Effect → Moment
changed_by moment p None = moment
changed_by moment p (Some e) = record { states = replaced moment.states p e.state; cells = e.cells }

-- after these lines
abbrev pub moment_after : Moment → List (ℕ × Line) → Moment
moment_after moment [] = moment
moment_after moment (x ∷ xs) = moment_after (changed_by moment x.0 (effect x.0 (moment.states x.0) moment.cells x.1.0)) xs

-- the cord of a name of the session p, if it was ever set
abbrev pub cord_of : Moment → ℕ → List ℕ → Option CordState
cord_of moment p name = (moment.states p).names name

-- a command that brings the cord of a name into a cell
abbrev pub IsPutting : Command → List ℕ → ℕ → Type 0
IsPutting (commands.Put a c) name cell = (a ≡ name) × (c ≡ cell)
IsPutting (commands.Swap a c) name cell = (a ≡ name) × (c ≡ cell)
IsPutting _ name cell = ⊥

-- a command that gives a name the cord in a cell
abbrev pub IsGetting : Command → List ℕ → ℕ → Type 0
IsGetting (commands.Take c a) name cell = (a ≡ name) × (c ≡ cell)
IsGetting (commands.Peek c a) name cell = (a ≡ name) × (c ≡ cell)
IsGetting (commands.Swap a c) name cell = (a ≡ name) × (c ≡ cell)
IsGetting _ name cell = ⊥

-- a command that leaves something else, or nothing, in a cell
abbrev pub IsChanging : Command → ℕ → Type 0
IsChanging (commands.Put a c) cell = c ≡ cell
IsChanging (commands.Take c a) cell = c ≡ cell
IsChanging (commands.Swap a c) cell = c ≡ cell
IsChanging _ cell = ⊥

-- lines that weren't refused
abbrev pub Puts : Line → List ℕ → ℕ → Type 0
Puts line name cell = IsPutting line.0 name cell × ¬ (IsRefusal line.1)

abbrev pub Gets : Line → List ℕ → ℕ → Type 0
Gets line name cell = IsGetting line.0 name cell × ¬ (IsRefusal line.1)

abbrev pub Changes : Line → ℕ → Type 0
Changes line cell = IsChanging line.0 cell × ¬ (IsRefusal line.1)

-- of the lines that were done from the beginning one put this cord of its session's name into the cell, and none behind it changed the cell
pub record WasPut (done : List (ℕ × Line)) (cell : ℕ) (cord : CordState) : Type 0 where
  pub earlier : List (ℕ × Line)
  pub session : ℕ
  pub line : Line
  pub later : List (ℕ × Line)
  pub parts : done ≡ earlier ++ (session, line) ∷ later
  pub name : List ℕ
  pub puts : Puts line name cell
  pub own : cord_of (moment_after beginning earlier) session name ≡ Some cord
  pub stays : All (λ x. ¬ (Changes x.1 cell)) later
