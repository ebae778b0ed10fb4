-- Which externals the commands of a session make, by their replies.
use Rattle.std.specs.Prelude.{ℕ, List, [], ◌∷◌, ◌++◌, length, map, zip}
use Rattle.plain_cord.specs.Texts.{text_bytes}
use Rattle.plain_cord.specs.declared.script.Command.{Command}
use Rattle.plain_cord.specs.declared.script.Command.TheVariants as commands
use Rattle.plain_cord.specs.declared.script.Session.{Session}
use Rattle.plain_cord.specs.declared.reply.Book.{Book}
use Rattle.plain_cord.specs.declared.reply.Reply.{Reply}
use Rattle.plain_cord.specs.declared.reply.Reply.TheVariants as replies

-- the length of the external that a command made, if it made one
abbrev pub external_of : Command → Reply → List ℕ
external_of (commands.Ext a text) (replies.Done mark lost) = length (text_bytes text) ∷ []
external_of command reply = []

-- the lengths of those of a session, in the order in which it made them
abbrev pub externals_of : List Command → List Reply → List ℕ
externals_of [] rs = []
externals_of (command ∷ said) [] = []
externals_of (command ∷ said) (reply ∷ rs) = external_of command reply ++ externals_of said rs

-- and of each session of a script
abbrev pub externals_in : List Session → List Book → List (List ℕ)
externals_in sessions books = map (λ s. externals_of s.0.commands s.1.replies) (zip sessions books)
