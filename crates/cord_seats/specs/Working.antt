-- A session at work on the board, and one command of it by itself.
use Rattle.std.specs.Prelude.{◌≡◌, ℕ, List, ◌++◌, length, map}
use Rattle.plain_cord.specs.declared.deed.Deed.{Deed}
use Rattle.plain_cord.specs.Deeds.{mapped_deed}
use Rattle.pool_rule.specs.Views.{View}
use Rattle.ordered_names.specs.declared.names.Names.{Names}
use Rattle.cord_value.specs.Views.{CordView}
use Rattle.cord_steps.specs.Answers.{Request}
use Rattle.cord_steps.specs.Cords.{Cord}
use Rattle.cord_steps.specs.Sessions.{Options, Session}
use Rattle.cord_runs.specs.Alone.{StepsAlone}
use Rattle.cord_board.specs.declared.view.BoardView.{BoardView}
use Rattle.cord_board.specs.Views.{session_of, mine_of}
use Rattle.cord_commands.specs.declared.answer.Answer.{Answer}
use Rattle.cord_commands.specs.Answers.{told_by}
use Rattle.cord_commands.specs.Does.{NoReport, AreFor, IsAt, IsCause, AreFormed}
use Rattle.cord_commands.specs.Views.{cord_in}

-- the worker used no releaser slot
pub record IsIdle (v w : View) : Type 0 where
  pub used : w.used ≡ v.used
  pub unused : w.unused ≡ v.unused

-- what a pass's session did on the board, as a run over trees has it
abbrev pub did_of : BoardView CordView → List (Deed Cord)
did_of seat = map (mapped_deed cord_in) (mine_of seat)

-- the session s has these names, has acted as often as the pass tells, and has a box for each slot that its worker has left
pub record IsAtWork (s : Session) (names : Names CordView) (seat : BoardView CordView) (w : View) : Type 0 where
  pub at : IsAt s names w
  pub acted : s.acted ≡ length (mine_of seat)

-- A request with its answer, of the session p by itself: s did this on the board, and is then at work with these names.
pub record GoesTo (options : Options) (p : ℕ) (s : Session) (request : Request) (answer : Answer) (now : List (Deed Cord)) (names : Names CordView)
    (seat : BoardView CordView) (w : View) : Type 0 where
  pub after : Session
  pub at : IsAtWork after names seat w
  pub step : StepsAlone {Report = NoReport} options p s (request, told_by answer) now after

-- One request with its answer: whichever session is at work with the old names goes to the new ones, by itself, in a run over a pool of so many
-- numbers and at most so many passes. Cords of names stay whole, and the worker's lists show the answer's cause.
pub record Advances (size limit : ℕ) (seat after : BoardView CordView) (v w : View) (old new : Names CordView) (request : Request) (answer : Answer)
    : Type 0 where
  pub formed : AreFormed old → AreFormed new
  pub now : List (Deed Cord)
  pub did : did_of after ≡ did_of seat ++ now
  pub step : (options : Options) (s : Session) → AreFor options size limit → IsAtWork s old seat v → AreFormed old
      → GoesTo options (session_of seat) s request answer now new after w
  pub cause : IsCause size limit v w answer
