-- Sessions none of whose cords has a record.
use Rattle.std.specs.Prelude.{ℕ, ◌≡◌, List, Some, None}
use Rattle.cord_steps.specs.Answers.{Request, Answer}
use Rattle.cord_steps.specs.Boarding.{left}
use Rattle.cord_steps.specs.Cords.{Cord, Names, IsCord}
use Rattle.cord_steps.specs.Sessions.{Options, Session, Cells}
use Rattle.cord_steps.specs.Steps.{IsStep}

-- a tree just where there must be one, and no record
pub record IsBareCord (c : Cord) : Type 0 where
  pub is : IsCord c
  pub note : c.note ≡ None

abbrev pub AreBare : Names → Type 0
AreBare names = (a : List ℕ) (c : Cord) → names a ≡ Some c → IsBareCord c

-- the session's step, which leaves the board alone, comes to these names and to so many externals, whatever lies in the cells
pub record StepsTo {Report : Type 0} (options : Options) (p : ℕ) (s : Session) (request : Request) (answer : Answer Report) (names : Names) (externals : ℕ)
    : Type 0 where
  pub trees : ℕ
  pub step : (cells : Cells) → IsStep options p s cells request answer (left (record s { names = names; trees = trees; externals = externals }) cells)
