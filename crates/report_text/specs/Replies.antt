-- The text of an answer, which has a line for each report in it and a last one, and what makes a line of a text.
use Rattle.std.specs.Prelude.{ℕ, ◌≤◌, List, [], ◌∷◌, ◌++◌, length, Option, Some, None, codes, ◌==◌, if◌then◌else◌}
use Rattle.std.specs.List.{flat_map}
use Rattle.std.specs.Fmt.{decimal}
use Rattle.plain_cord.specs.declared.limits.TheConstants.{MOST_SHOWN}
use Rattle.plain_cord.specs.declared.reply.NewMark.{NewMark}
use Rattle.plain_cord.specs.declared.reply.NewMark.TheVariants.{Plain, Noted, Full}
use Rattle.plain_cord.specs.declared.reply.Report.{Report}
use Rattle.plain_cord.specs.declared.reply.Reply.{Reply}
use Rattle.plain_cord.specs.declared.reply.Reply.TheVariants as replies
use Rattle.report_text.specs.Quotes.{quoted}
use Rattle.report_text.specs.Reports.{report_text}

-- a text as a line
abbrev pub line_of : List ℕ → List ℕ
line_of text = text ++ 10 ∷ []

abbrev pub mark_text : NewMark → List ℕ
mark_text Plain = []
mark_text (Noted stamp update n) = codes " ~" ++ decimal stamp ++ codes "." ++ decimal update ++ codes " " ++ decimal n
mark_text Full = codes " ~full"

abbrev pub gone_text : Option ℕ → List ℕ
gone_text None = []
gone_text (Some stamp) = codes " ~" ++ decimal stamp ++ codes " gone"

abbrev pub more_text : ℕ → List ℕ
more_text n = if n == 0 then [] else codes " +" ++ decimal n

abbrev pub report_line : Report → List ℕ
report_line report = line_of (report_text report)

abbrev pub report_lines : List Report → List ℕ
report_lines reports = flat_map report_line reports

-- the reports in an answer
abbrev pub reports_of : Reply → List Report
reports_of (replies.Walked reports) = reports
reports_of _ = []

-- the last line of an answer, without its newline: the only one where there are no reports
abbrev pub last_text : Reply → List ℕ
last_text (replies.Done new gone) = codes "ok" ++ mark_text new ++ gone_text gone
last_text (replies.Number n) = decimal n
last_text (replies.Sum n) = codes "sum " ++ decimal n
last_text replies.None = codes "none"
last_text (replies.Shown text more) = quoted text ++ more_text more
last_text replies.Less = codes "less"
last_text replies.Equal = codes "equal"
last_text replies.Greater = codes "greater"
last_text replies.Yes = codes "yes"
last_text replies.No = codes "no"
last_text (replies.Unset name) = codes "! unset " ++ name
last_text replies.NoBytes = codes "! no bytes"
last_text (replies.Position asked n) = codes "! position " ++ decimal asked ++ codes " " ++ decimal n
last_text (replies.Length asked) = codes "! length " ++ decimal asked
last_text (replies.Empty cell) = codes "! empty " ++ decimal cell
last_text replies.Releasers = codes "! releasers"
last_text replies.Height = codes "! height 12"
last_text replies.HasSnapshot = codes "! snapshot"
last_text replies.NoSnapshot = codes "! no snapshot"
last_text (replies.Walked reports) = codes "walked " ++ decimal (length reports)
last_text (replies.Ended deleted) = codes "ok " ++ decimal deleted
last_text (replies.Cords found) = codes "! cords " ++ decimal found
last_text (replies.Pool size) = codes "! pool " ++ decimal size

-- an answer, without the newline of its last line
abbrev pub reply_text : Reply → List ℕ
reply_text reply = report_lines (reports_of reply) ++ last_text reply

-- what is shown and what is named is as short as a session's answers are
abbrev pub IsShortReply : Reply → Type 0
IsShortReply (replies.Shown text more) = length text ≤ MOST_SHOWN
IsShortReply (replies.Unset name) = length name ≤ 16
IsShortReply _ = Unit {0}
