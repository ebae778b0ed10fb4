-- What a command on names did: the plain step over trees of a session that has these names, and what its answer shows.
use Rattle.std.specs.Prelude.{ℕ, ◌≡◌, ◌+◌, [], length}
use Rattle.pool_rule.specs.Gains.{SawAll}
use Rattle.pool_rule.specs.Views.{View}
use Rattle.record_rule.specs.Log.{is_walking}
use Rattle.ordered_names.specs.declared.names.Names.{Names}
use Rattle.cord_value.specs.Refusals.{IsBalanced}
use Rattle.cord_value.specs.declared.refusals.CordError.TheVariants as cord
use Rattle.cord_steps.specs.Answers.{Request}
use Rattle.cord_steps.specs.Boarding.{left}
use Rattle.cord_steps.specs.Cords.{Names as StepNames}
use Rattle.cord_steps.specs.Sessions.{Options, Session, Cells}
use Rattle.cord_steps.specs.Steps.{IsStep}
use Rattle.cord_steps.specs.Answers as steps
use Rattle.sampled_commands.specs.declared.answer.Answer.{Answer}
use Rattle.sampled_commands.specs.declared.answer.Answer.TheVariants.{Releasers, Cords, Pool}
use Rattle.sampled_commands.specs.Accounts.{Seen}
use Rattle.sampled_commands.specs.Answers.{Report, told_by}
use Rattle.sampled_commands.specs.Views.{SessionCordView, names_of, AreWhole}

-- the options of a run over a pool of so many numbers and at most so many passes, with this stride
pub record AreFor (options : Options) (size limit every : ℕ) : Type 0 where
  pub numbers : options.numbers ≡ size
  pub passes : options.passes ≡ limit
  pub stride : options.stride ≡ every

-- a session that has these names, a box for each slot that its worker has left, its count of new trees, and a snapshot just where its token has one
pub record IsAt (s : Session) (have : Names SessionCordView) (v : Seen) : Type 0 where
  pub names : s.names ≡ names_of have
  pub boxes : s.externals + length v.worker.unused ≡ s.boxes
  pub trees : s.trees ≡ v.made
  pub watches : s.watches ≡ is_walking v.token.own

-- what was seen where something was wanting: no slot left; a counted step that found the limit reached; each number in use
abbrev pub IsCause : ℕ → ℕ → View → View → Answer → Type 0
IsCause size limit v w Releasers = v.unused ≡ []
IsCause size limit v w (Cords found) = IsBalanced limit (cord.PassLimit found) v w
IsCause size limit v w (Pool seen) = (seen ≡ size) × SawAll size v w
IsCause size limit v w _ = Unit {0}

-- the session's step, which leaves the board alone, comes to these names, so many new trees and so many externals, whatever lies in the cells
pub record StepsTo (options : Options) (p : ℕ) (s : Session) (request : Request) (answer : steps.Answer Report) (names : StepNames)
    (trees externals : ℕ) : Type 0 where
  pub step : (cells : Cells) → IsStep options p s cells request answer (left (record s { names = names; trees = trees; externals = externals }) cells)

-- from these names to those, with this answer
pub record Does (size limit stride : ℕ) (old new : Names SessionCordView) (v w : Seen) (request : Request) (answer : Answer) : Type 0 where
  pub whole : AreWhole old → AreWhole new
  -- how many externals were made; each used a slot
  pub externals : ℕ
  pub used : externals + length w.worker.unused ≡ length v.worker.unused
  pub step : (options : Options) (p : ℕ) (s : Session) → AreFor options size limit stride → IsAt s old v → AreWhole old
      → StepsTo options p s request (told_by answer) (names_of new) w.made (s.externals + externals)
  pub cause : IsCause size limit v.worker w.worker answer
