-- A few sessions and answers, by which the definitions are tried.
use Rattle.std.specs.Prelude.{ℕ, false, List, [], ◌∷◌, Option}
use Rattle.plain_cord.specs.declared.script.Command.{Command}
use Rattle.plain_cord.specs.declared.script.Text.{Text}
use Rattle.plain_cord.specs.declared.reply.NewMark.TheVariants as marks
use Rattle.plain_cord.specs.declared.reply.Reply.TheVariants as replies
use Rattle.cord_steps.specs.Answers.{Plain, Answer, Told}
use Rattle.cord_steps.specs.Runs.{new_session}
use Rattle.cord_steps.specs.Sessions.{Options, Session}
use Rattle.cord_steps.specs.Steps.{effect, IsAnswer}

-- eight numbers, two passes, and each new tree sampled
abbrev pub each_sampled : Options
each_sampled = record { numbers = 8; passes = 2; stride = 1 }

-- the name x, and so many letters a
abbrev pub x : List ℕ
x = 120 ∷ []

abbrev pub letters : ℕ → Text
letters n = record { piece = 97 ∷ []; times = n }

-- done, with a record's mark or without, and with the stamp of a record that was given up or without
abbrev pub ok : Option ℕ → Answer ℕ
ok gone = Told (replies.Done marks.Plain gone)

abbrev pub noted : ℕ → ℕ → ℕ → Option ℕ → Answer ℕ
noted stamp update size gone = Told (replies.Done (marks.Noted stamp update size) gone)

abbrev pub start : Session
start = new_session 0

abbrev pub after : Session → Command → Answer ℕ → Session
after s command answer = (effect false 0 s [] (Plain command) answer).state

abbrev pub MayAnswer : Session → Command → Answer ℕ → Type 0
MayAnswer s command answer = IsAnswer false each_sampled s [] (Plain command) answer
