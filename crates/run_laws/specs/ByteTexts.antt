-- Scripts whose texts are of bytes, as each script is that was read.
use Rattle.std.specs.Prelude.{List, IfSome, ℕ}
use Rattle.std.specs.List.{All}
use Rattle.plain_cord.specs.declared.script.Command.{Command}
use Rattle.plain_cord.specs.declared.script.Session.{Session}
use Rattle.script_words.specs.Forms.{text_of}
use Rattle.report_text.specs.Readable.{IsByte}

-- each byte of its text is one of these
abbrev pub HasTextOf : (ℕ → Type 0) → Command → Type 0
HasTextOf P command = IfSome (text_of command) (λ text. All P text.piece)

abbrev pub HasByteText : Command → Type 0
HasByteText = HasTextOf IsByte

abbrev pub HaveByteTexts : List Session → Type 0
HaveByteTexts sessions = All (λ session. All HasByteText session.commands) sessions
