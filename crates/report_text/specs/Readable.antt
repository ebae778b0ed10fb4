-- Answers and actions that are read back from their text.
use Rattle.std.specs.Prelude.{◌≡◌, ℕ, ◌<◌, ◌^◌, List, length, IfSome}
use Rattle.std.specs.List.{All}
use Rattle.plain_cord.specs.declared.script.Session.{Session}
use Rattle.plain_cord.specs.declared.reply.NewMark.{NewMark}
use Rattle.plain_cord.specs.declared.reply.NewMark.TheVariants.{Plain, Noted, Full}
use Rattle.plain_cord.specs.declared.statistics.Statistics.{Statistics}
use Rattle.plain_cord.specs.declared.reply.Report.{Report}
use Rattle.plain_cord.specs.declared.reply.Reply.{Reply}
use Rattle.plain_cord.specs.declared.reply.Reply.TheVariants as replies
use Rattle.plain_cord.specs.declared.reply.Book.{Book}
use Rattle.plain_cord.specs.declared.history.Entry.{Entry}
use Rattle.report_text.specs.Histories.{name_at}
use Rattle.report_text.specs.Outputs.{HasProperLengths}

-- a number of 64 bits
abbrev pub IsNumber : ℕ → Type 0
IsNumber n = n < 2 ^ 64

abbrev pub IsByte : ℕ → Type 0
IsByte b = b < 256

-- any byte but the newline
abbrev pub IsInLine : ℕ → Type 0
IsInLine b = ¬ (b ≡ 10)

-- an answer with no newline in the name that it tells
abbrev pub IsInLineReply : Reply → Type 0
IsInLineReply (replies.Unset name) = All IsInLine name
IsInLineReply _ = Unit {0}

abbrev pub IsReadableMark : NewMark → Type 0
IsReadableMark Plain = Unit {0}
IsReadableMark (Noted stamp update n) = IsNumber stamp × IsNumber update × IsNumber n
IsReadableMark Full = Unit {0}

pub record AreReadableStatistics (s : Statistics) : Type 0 where
  pub size : IsNumber s.size
  pub nodes : IsNumber s.nodes
  pub flat : IsNumber s.flat
  pub external : IsNumber s.external
  pub part : IsNumber s.part
  pub sum : IsNumber s.sum
  pub branch : IsNumber s.branch
  pub buckets : All IsNumber s.buckets
  pub memory : IsNumber s.memory

pub record IsReadableReport (report : Report) : Type 0 where
  pub stamp : IsNumber report.stamp
  pub update : IsNumber report.update
  pub statistics : AreReadableStatistics report.statistics

-- its numbers are numbers of 64 bits, what it shows is bytes, and the name in it has no newline
abbrev pub IsReadableReply : Reply → Type 0
IsReadableReply (replies.Done new gone) = IsReadableMark new × IfSome gone IsNumber
IsReadableReply (replies.Number n) = IsNumber n
IsReadableReply (replies.Sum n) = IsNumber n
IsReadableReply (replies.Shown text more) = All IsByte text × IsNumber more
IsReadableReply (replies.Unset name) = All IsInLine name
IsReadableReply (replies.Position asked n) = IsNumber asked × IsNumber n
IsReadableReply (replies.Length asked) = IsNumber asked
IsReadableReply (replies.Empty cell) = IsNumber cell
IsReadableReply (replies.Walked reports) = All IsReadableReport reports
IsReadableReply (replies.Ended deleted) = IsNumber deleted
IsReadableReply (replies.Cords found) = IsNumber found
IsReadableReply (replies.Pool size) = IsNumber size
IsReadableReply _ = Unit {0}

-- an action of one of so many sessions, with the lengths of its kind, whose numbers are numbers of 64 bits
pub record IsReadableEntry (sessions : ℕ) (entry : Entry) : Type 0 where
  pub session : entry.session < sessions
  pub place : IsNumber entry.place
  pub cell : IsNumber entry.cell
  pub came : IfSome entry.came IsNumber
  pub was : IfSome entry.was IsNumber
  pub lengths : HasProperLengths entry.act entry.came entry.was

-- any byte but the space
abbrev pub IsInWord : ℕ → Type 0
IsInWord b = ¬ (b ≡ 32)

abbrev pub NamesDiffer : List Session → Type 0
NamesDiffer sessions = (p q : ℕ) → p < length sessions → q < length sessions → name_at sessions p ≡ name_at sessions q → p ≡ q

-- one book for each session, of answers with no newline in a name
pub record AreInLine (sessions : List Session) (books : List Book) : Type 0 where
  pub paired : length books ≡ length sessions
  pub replies : All (λ book. All IsInLineReply book.replies) books

-- one book for each session, of readable answers
pub record AreReadable (sessions : List Session) (books : List Book) : Type 0 where
  pub paired : length books ≡ length sessions
  pub replies : All (λ book. All IsReadableReply book.replies) books

-- a history of these sessions, whose names are words that differ
pub record IsReadableHistory (sessions : List Session) (history : List Entry) : Type 0 where
  pub names : All (λ session. All IsInWord session.name) sessions
  pub differ : NamesDiffer sessions
  pub entries : All (IsReadableEntry (length sessions)) history
  pub few : IsNumber (length history)

pub record IsReadable (sessions : List Session) (books : List Book) (history : List Entry) : Type 0 where
  pub answers : AreReadable sessions books
  pub actions : IsReadableHistory sessions history
