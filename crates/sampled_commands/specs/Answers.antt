-- What calls on sampled cords come to as answers: their marks, and why they were refused.
use Rattle.std.specs.Prelude.{ℕ, ◌≡◌, Option, Some, None, Result, Ok, Err}
use Rattle.plain_cord.specs.declared.reply.NewMark.{NewMark}
use Rattle.plain_cord.specs.declared.reply.NewMark.TheVariants as marks
use Rattle.plain_cord.specs.declared.reply.Reply.TheVariants as replies
use Rattle.plain_cord.specs.declared.reply.Report.{Report as ReplyReport}
use Rattle.cord_value.specs.declared.refusals.CordError.{CordError}
use Rattle.cord_value.specs.declared.refusals.CordError.TheVariants as cord
use Rattle.cord_steps.specs.Answers as steps
use Rattle.cord_sampled.specs.declared.mark.Mark.{Mark}
use Rattle.cord_sampled.specs.declared.mark.Mark.TheVariants.{Noted, Full, Gone}
use Rattle.sampled_commands.specs.declared.answer.Answer.{Answer}
use Rattle.sampled_commands.specs.declared.answer.Answer.TheVariants.{Told, Releasers, Height, Cords, Pool, HasSnapshot, NoSnapshot, Walked, Ended}

-- what a walk tells of a record
abbrev pub Report : Type 0
Report = ReplyReport

-- `ok` with these marks
abbrev pub ok_with : NewMark → Option ℕ → Answer
ok_with mark gone = Told (replies.Done mark gone)

-- the answer as the plain step over trees has it
abbrev pub told_by : Answer → steps.Answer Report
told_by (Told reply) = steps.Told reply
told_by Releasers = steps.Releasers
told_by Height = steps.Height
told_by (Cords found) = steps.Cords found
told_by (Pool size) = steps.Pool size
told_by HasSnapshot = steps.HasSnapshot
told_by NoSnapshot = steps.NoSnapshot
told_by (Walked reports) = steps.Walked reports
told_by (Ended deleted) = steps.Ended deleted

-- the answer to a refused call; want of memory has none
abbrev pub refusal_of : CordError → Option Answer
refusal_of (cord.Position asked size) = Some (Told (replies.Position asked size))
refusal_of (cord.LengthLimit asked) = Some (Told (replies.Length asked))
refusal_of (cord.HeightLimit height) = Some Height
refusal_of (cord.PassLimit found) = Some (Cords found)
refusal_of (cord.NoNumber seen) = Some (Pool seen)
refusal_of (cord.NoReleaser used) = Some Releasers
refusal_of cord.Memory = None

-- ---- the marks of a call
abbrev pub new_mark : Mark → NewMark
new_mark (Noted note) = marks.Noted note.stamp note.update note.length
new_mark (Full in_use) = marks.Full
new_mark _ = marks.Plain

abbrev pub gone_of : Mark → Option ℕ
gone_of (Gone stamp) = Some stamp
gone_of _ = None

-- the answer to a change: done, with its mark, or why not
abbrev pub IsAnswerTo : Result Mark CordError → Answer → Type 0
IsAnswerTo (Ok mark) answer = answer ≡ ok_with (new_mark mark) (gone_of mark)
IsAnswerTo (Err x) answer = Some answer ≡ refusal_of x
