-- What a command on names did: the plain step over trees of a session that has these names, and what its answer shows.
use Rattle.std.specs.Prelude.{ℕ, ◌≡◌, ◌+◌, List, [], length, Some}
use Rattle.pool_rule.specs.Gains.{SawAll}
use Rattle.pool_rule.specs.Views.{View}
use Rattle.plain_cord.specs.declared.reply.Report.{Report}
use Rattle.ordered_names.specs.declared.names.Names.{Names}
use Rattle.ordered_names.specs.Named.{named}
use Rattle.cord_value.specs.Refusals.{IsBalanced}
use Rattle.cord_value.specs.Views.{CordView, IsTreeOf}
use Rattle.cord_value.specs.declared.refusals.CordError.TheVariants as cord
use Rattle.cord_steps.specs.Answers.{Request}
use Rattle.cord_steps.specs.Sessions.{Options, Session}
use Rattle.cord_commands.specs.declared.answer.Answer.{Answer}
use Rattle.cord_commands.specs.declared.answer.Answer.TheVariants.{Told, Releasers, Height, Cords, Pool}
use Rattle.cord_commands.specs.Answers.{told_by}
use Rattle.cord_commands.specs.Bare.{StepsTo}
use Rattle.cord_commands.specs.Views.{names_of}

-- nothing walks over records here, so no walk tells of any
abbrev pub NoReport : Type 0
NoReport = Report

-- the options of a run in which no tree is sampled
pub record AreFor (options : Options) (size limit : ℕ) : Type 0 where
  pub numbers : options.numbers ≡ size
  pub passes : options.passes ≡ limit
  pub stride : options.stride ≡ 0

-- a session that has these names, and a box for each slot that its worker has left
pub record IsAt (s : Session) (have : Names CordView) (w : View) : Type 0 where
  pub names : s.names ≡ names_of have
  pub boxes : s.externals + length w.unused ≡ s.boxes

-- each cord of a name is whole
abbrev pub AreFormed : Names CordView → Type 0
AreFormed names = (q : List ℕ) (c : CordView) → named names q ≡ Some c → IsTreeOf c.bytes c.tree

-- what was seen where something was wanting: no slot left; a counted step that found the limit reached; each number in use
abbrev pub IsCause : ℕ → ℕ → View → View → Answer → Type 0
IsCause size limit v w (Told reply) = Unit {0}
IsCause size limit v w Releasers = v.unused ≡ []
IsCause size limit v w Height = Unit {0}
IsCause size limit v w (Cords found) = IsBalanced limit (cord.PassLimit found) v w
IsCause size limit v w (Pool seen) = (seen ≡ size) × SawAll size v w

-- from these names to those, with this answer
pub record Does (size limit : ℕ) (old new : Names CordView) (v w : View) (request : Request) (answer : Answer) : Type 0 where
  pub formed : AreFormed old → AreFormed new
  -- how many externals were made; each used a slot
  pub externals : ℕ
  pub used : externals + length w.unused ≡ length v.unused
  pub step : (options : Options) (p : ℕ) (s : Session) → AreFor options size limit → IsAt s old v → AreFormed old
      → StepsTo {Report = NoReport} options p s request (told_by answer) (names_of new) (s.externals + externals)
  pub cause : IsCause size limit v w answer
