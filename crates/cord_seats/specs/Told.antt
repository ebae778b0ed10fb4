-- What the answers of a session tell.
use Rattle.std.specs.Prelude.{◌≡◌, ℕ, List, [], ◌∷◌, ◌++◌, length, map, zip}
use Rattle.plain_cord.specs.declared.deed.Deed.{Deed}
use Rattle.plain_cord.specs.Deeds.{mapped_deed}
use Rattle.plain_cord.specs.declared.script.Command.{Command}
use Rattle.plain_cord.specs.declared.script.Session.{Session}
use Rattle.cord_value.specs.Views.{CordView}
use Rattle.cord_steps.specs.Replies.{request_of}
use Rattle.cord_steps.specs.Runs.{new_session}
use Rattle.cord_steps.specs.Sessions as steps
use Rattle.cord_steps.specs.Sessions.{Options}
use Rattle.cord_runs.specs.Alone.{RunsAlone}
use Rattle.cord_commands.specs.declared.answer.Answer.{Answer}
use Rattle.cord_commands.specs.Answers.{told_by}
use Rattle.cord_commands.specs.Does.{NoReport}
use Rattle.cord_commands.specs.Slots.{external_by}
use Rattle.cord_commands.specs.Views.{cord_in}

-- the options of a run over a pool of so many numbers and at most so many passes, in which no tree is sampled
abbrev pub options_for : ℕ → ℕ → Options
options_for size limit = record { numbers = size; passes = limit; stride = 0 }

-- The session p, which owns so many boxes, has these answers and did this on the board: by itself it does so over any cells in which its
-- actions find what they found.
pub record IsToldAlone (size limit boxes p : ℕ) (said : List Command) (answers : List Answer) (did : List (Deed CordView)) : Type 0 where
  pub answered : length answers ≡ length said
  pub after : steps.Session
  pub run : RunsAlone {Report = NoReport} (options_for size limit) p (new_session boxes) (zip (map request_of said) (map told_by answers))
      (map (mapped_deed cord_in) did) after

-- each session has as many answers as commands
abbrev pub AreAnswered : List Session → List (List Answer) → Type 0
AreAnswered sessions answers = map length answers ≡ map (λ session. length session.commands) sessions

-- the lengths of the externals that the commands of a session made, by their answers
abbrev pub externals_by : List Command → List Answer → List ℕ
externals_by [] answers = []
externals_by (command ∷ said) [] = []
externals_by (command ∷ said) (answer ∷ answers) = external_by command answer ++ externals_by said answers

-- and of each session of a script
abbrev pub all_externals : List Session → List (List Answer) → List (List ℕ)
all_externals sessions answers = map (λ s. externals_by s.0.commands s.1) (zip sessions answers)
