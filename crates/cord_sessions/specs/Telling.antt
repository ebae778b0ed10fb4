-- The replies by which what sessions on cords answered is told: a book has them.
use Rattle.std.specs.Prelude.{List, map}
use Rattle.plain_cord.specs.declared.script.Command.{Command}
use Rattle.plain_cord.specs.declared.script.Command.TheVariants as commands
use Rattle.plain_cord.specs.declared.reply.Book.{Book}
use Rattle.plain_cord.specs.declared.reply.Reply.{Reply}
use Rattle.plain_cord.specs.declared.reply.Reply.TheVariants as replies
use Rattle.cord_commands.specs.declared.answer.Answer.{Answer}
use Rattle.cord_commands.specs.declared.answer.Answer.TheVariants.{Told, Releasers, Height, Cords, Pool}

abbrev pub reply_to : Answer → Reply
reply_to (Told reply) = reply
reply_to Releasers = replies.Releasers
reply_to Height = replies.Height
reply_to (Cords found) = replies.Cords found
reply_to (Pool size) = replies.Pool size

abbrev pub book_of : List Answer → Book
book_of answers = record { replies = map reply_to answers }

-- refused for want of a box, a height, a pass or a number
abbrev pub IsWant : Reply → Type 0
IsWant replies.Releasers = Unit {0}
IsWant replies.Height = Unit {0}
IsWant (replies.Cords found) = Unit {0}
IsWant (replies.Pool size) = Unit {0}
IsWant _ = ⊥

-- a command to the profiler, and the replies that only it gives
abbrev pub AsksProfiler : Command → Type 0
AsksProfiler commands.Snap = Unit {0}
AsksProfiler commands.Walk = Unit {0}
AsksProfiler commands.Unsnap = Unit {0}
AsksProfiler _ = ⊥

abbrev pub IsOfProfiler : Reply → Type 0
IsOfProfiler replies.HasSnapshot = Unit {0}
IsOfProfiler replies.NoSnapshot = Unit {0}
IsOfProfiler (replies.Walked reports) = Unit {0}
IsOfProfiler (replies.Ended deleted) = Unit {0}
IsOfProfiler _ = ⊥
