-- The text that a run writes: each session's name and answers, the history, and the pool, a line each.
use Rattle.std.specs.Prelude.{◌≡◌, ℕ, ◌≤◌, ◌<◌, List, ◌++◌, length, codes, Option, Some, None, IsSome}
use Rattle.std.specs.List.{All, flat_map, zip}
use Rattle.std.specs.Fmt.{decimal}
use Rattle.plain_cord.specs.declared.script.Session.{Session}
use Rattle.plain_cord.specs.declared.reply.Reply.{Reply}
use Rattle.plain_cord.specs.declared.reply.Book.{Book}
use Rattle.plain_cord.specs.declared.history.Act.{Act}
use Rattle.plain_cord.specs.declared.history.Act.TheVariants.{Put, Take, Peek, Swap}
use Rattle.plain_cord.specs.declared.history.Entry.{Entry}
use Rattle.report_text.specs.Replies.{line_of, reply_text, IsShortReply}
use Rattle.report_text.specs.Histories.{history_text, pool_line}

abbrev pub session_line : List ℕ → List ℕ
session_line name = line_of (codes "session " ++ name)

abbrev pub reply_line : Reply → List ℕ
reply_line reply = line_of (reply_text reply)

abbrev pub reply_lines : List Reply → List ℕ
reply_lines replies = flat_map reply_line replies

-- a session's name and its answers
abbrev pub session_text : Session × Book → List ℕ
session_text part = session_line part.0.name ++ reply_lines part.1.replies

-- each session beside its book
abbrev pub books_text : List Session → List Book → List ℕ
books_text sessions books = flat_map session_text (zip sessions books)

-- with so many numbers in use of the pool's
abbrev pub output_text : List Session → List Book → List Entry → ℕ → ℕ → List ℕ
output_text sessions books history left pool = books_text sessions books ++ history_text sessions history ++ pool_line left pool

-- what is written of bytes that are no script: the line of the first fault, and the word for its cause
abbrev pub refusal_line : ℕ → List ℕ → List ℕ
refusal_line number word = line_of (codes "refused at line " ++ decimal number ++ codes ": " ++ word)

-- a put hands a length in, a take and a peek may find one, and a swap does both or neither
abbrev pub HasProperLengths : Act → Option ℕ → Option ℕ → Type 0
HasProperLengths Put came was = IsSome came × (was ≡ None)
HasProperLengths Take came was = came ≡ None
HasProperLengths Peek came was = came ≡ None
HasProperLengths Swap came None = came ≡ None
HasProperLengths Swap came (Some n) = IsSome came

-- an action of one of so many sessions
pub record IsProperEntry (sessions : ℕ) (entry : Entry) : Type 0 where
  pub session : entry.session < sessions
  pub lengths : HasProperLengths entry.act entry.came entry.was

-- as short as a session's name and its answers are, with a history of these sessions
pub record IsPrintable (sessions : List Session) (books : List Book) (history : List Entry) : Type 0 where
  pub paired : length books ≡ length sessions
  pub names : All (λ session. length session.name ≤ 16) sessions
  pub replies : All (λ book. All IsShortReply book.replies) books
  pub entries : All (IsProperEntry (length sessions)) history
