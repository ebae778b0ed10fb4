-- What refused calls on cords come to as answers, and what becomes of a name that is to be set.
use Rattle.std.specs.Prelude.{ℕ, ◌≡◌, List, Option, Some, None, Result, Ok, Err}
use Rattle.plain_cord.specs.declared.reply.NewMark.TheVariants as marks
use Rattle.plain_cord.specs.declared.reply.Reply.TheVariants as replies
use Rattle.ordered_names.specs.declared.names.Names.{Names}
use Rattle.cord_value.specs.Views.{CordView}
use Rattle.cord_value.specs.declared.refusals.CordError.{CordError}
use Rattle.cord_value.specs.declared.refusals.CordError.TheVariants as cord
use Rattle.cord_steps.specs.Answers as steps
use Rattle.cord_commands.specs.declared.answer.Answer.{Answer}
use Rattle.cord_commands.specs.declared.answer.Answer.TheVariants.{Told, Releasers, Height, Cords, Pool}
use Rattle.cord_commands.specs.Views.{AreSame, IsSetTo}

-- `ok` with no mark
abbrev pub ok : Answer
ok = Told (replies.Done marks.Plain None)

-- the answer as the plain step over trees has it
abbrev pub told_by : {Report : Type 0} → Answer → steps.Answer Report
told_by (Told reply) = steps.Told reply
told_by Releasers = steps.Releasers
told_by Height = steps.Height
told_by (Cords found) = steps.Cords found
told_by (Pool size) = steps.Pool size

-- the answer to a refused call; want of memory has none
abbrev pub refusal_of : CordError → Option Answer
refusal_of (cord.Position asked size) = Some (Told (replies.Position asked size))
refusal_of (cord.LengthLimit asked) = Some (Told (replies.Length asked))
refusal_of (cord.HeightLimit height) = Some Height
refusal_of (cord.PassLimit found) = Some (Cords found)
refusal_of (cord.NoNumber seen) = Some (Pool seen)
refusal_of (cord.NoReleaser used) = Some Releasers
refusal_of cord.Memory = None

-- a is set to the cord that was made; or none was, and nothing changed
abbrev pub IsSet : Names CordView → Names CordView → List ℕ → Result CordView CordError → Answer → Type 0
IsSet old new a (Ok c) answer = IsSetTo old new a c × (answer ≡ ok)
IsSet old new a (Err x) answer = AreSame old new × (Some answer ≡ refusal_of x)

-- of a change: done, or why not
abbrev pub IsAnswerTo : Result (Unit {0}) CordError → Answer → Type 0
IsAnswerTo (Ok x) answer = answer ≡ ok
IsAnswerTo (Err x) answer = Some answer ≡ refusal_of x
