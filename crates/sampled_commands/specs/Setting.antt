-- What becomes of a name that is to be set.
use Rattle.std.specs.Prelude.{ℕ, ◌≡◌, List, Some, Result, Ok, Err, IfOk}
use Rattle.ordered_names.specs.declared.names.Names.{Names}
use Rattle.ordered_names.specs.Named.{named}
use Rattle.cord_value.specs.declared.refusals.CordError.{CordError}
use Rattle.cord_sampled.specs.declared.cord.SampledCord.{SampledCord}
use Rattle.cord_sampled.specs.declared.mark.Mark.{Mark}
use Rattle.sampled_commands.specs.declared.answer.Answer.{Answer}
use Rattle.sampled_commands.specs.Accounts.{trees_of, records_of}
use Rattle.sampled_commands.specs.Answers.{ok_with, new_mark, refusal_of}
use Rattle.sampled_commands.specs.Forms.{view_of, IsForm}
use Rattle.sampled_commands.specs.Leaving.{stamp_gone}
use Rattle.sampled_commands.specs.Views.{SessionCordView, AreSame, IsSetTo}

-- a sampled cord that was made, as one of a session
module _ {P D : Type 0} {p : _} {d : _} where
  abbrev pub session_made : Result (SampledCord P D p d × Mark) CordError → Result (SessionCordView × Mark) CordError
  session_made (Ok c) = Ok (view_of c.0, c.1)
  session_made (Err x) = Err x

  -- its record isn't bare
  abbrev pub IsFormMade : Result (SampledCord P D p d × Mark) CordError → Type 0
  IsFormMade made = IfOk made (λ c. IsForm c.0)

-- of a cord that was made, or refused
abbrev pub trees_made : Result (SessionCordView × Mark) CordError → ℕ
trees_made (Ok c) = trees_of c.0
trees_made (Err x) = 0

abbrev pub records_made : Result (SessionCordView × Mark) CordError → ℕ
records_made (Ok c) = records_of c.0
records_made (Err x) = 0

-- a is set to the cord that was made, and the cord that it had goes; or none was made, and nothing changed
abbrev pub IsSet : Names SessionCordView → Names SessionCordView → List ℕ → Result (SessionCordView × Mark) CordError → Answer → Type 0
IsSet old new a (Ok c) answer = IsSetTo old new a c.0 × (answer ≡ ok_with (new_mark c.1) (stamp_gone (named old a)))
IsSet old new a (Err x) answer = AreSame old new × (Some answer ≡ refusal_of x)
