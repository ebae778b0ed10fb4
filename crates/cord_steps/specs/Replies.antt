-- A script's commands as requests, and a book's replies as answers.
use Rattle.plain_cord.specs.declared.script.Command.{Command}
use Rattle.plain_cord.specs.declared.script.Command.TheVariants as commands
use Rattle.plain_cord.specs.declared.reply.Reply.{Reply}
use Rattle.plain_cord.specs.declared.reply.Reply.TheVariants as replies
use Rattle.plain_cord.specs.declared.reply.Report.{Report}
use Rattle.cord_steps.specs.Answers.{Request, Plain, External, Snap, Walk, Unsnap}
use Rattle.cord_steps.specs.Answers.{Answer, Told, Releasers, HasSnapshot, NoSnapshot, Walked, Ended, Height, Cords, Pool}

-- an `ext` needs a box of the session, and three commands are the profiler's; any other of a script is one on byte strings and cells
abbrev pub request_of : Command → Request
request_of (commands.Ext a text) = External a text
request_of commands.Snap = Snap
request_of commands.Walk = Walk
request_of commands.Unsnap = Unsnap
request_of command = Plain command

-- what a reply tells
abbrev pub answer_of : Reply → Answer Report
answer_of replies.Releasers = Releasers
answer_of replies.HasSnapshot = HasSnapshot
answer_of replies.NoSnapshot = NoSnapshot
answer_of (replies.Walked reports) = Walked reports
answer_of (replies.Ended deleted) = Ended deleted
answer_of replies.Height = Height
answer_of (replies.Cords found) = Cords found
answer_of (replies.Pool size) = Pool size
answer_of reply = Told reply

-- the reply by which an answer is told
abbrev pub reply_of : Answer Report → Reply
reply_of (Told reply) = reply
reply_of Releasers = replies.Releasers
reply_of HasSnapshot = replies.HasSnapshot
reply_of NoSnapshot = replies.NoSnapshot
reply_of (Walked reports) = replies.Walked reports
reply_of (Ended deleted) = replies.Ended deleted
reply_of Height = replies.Height
reply_of (Cords found) = replies.Cords found
reply_of (Pool size) = replies.Pool size
