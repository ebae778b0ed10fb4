-- The limits on what a command has, by the kinds of its arguments.
use Rattle.std.specs.Prelude.{ℕ, ◌*◌, ◌^◌, ◌<◌, ◌≤◌, List, [], ◌∷◌, length, Option, Some, None}
use Rattle.plain_cord.specs.declared.script.Text.{Text}
use Rattle.plain_cord.specs.declared.script.Command.{Command}
use Rattle.script_words.specs.Table.{least_of, most_of, Form, OfName, OfNameText, OfNameNumber, OfNameCell, OfCellName, OfTwoNames, OfBare, OfSub, form_of}

-- a text has at least so many bytes, and 1,048,576 at most
abbrev pub IsShort : ℕ → Text → Type 0
IsShort least text = (least ≤ length text.piece * text.times) × (length text.piece * text.times ≤ 1048576)

-- Numbers, cells and texts are within the limits. The words with nothing behind them aren't built yet, so no script that is read has one.
abbrev pub IsFormWithin : Form → Type 0
IsFormWithin (OfName verb a) = Unit {0}
IsFormWithin (OfNameText verb a text) = IsShort (least_of verb) text
IsFormWithin (OfNameNumber verb a n) = n ≤ most_of verb
IsFormWithin (OfNameCell verb a cell) = cell < 64
IsFormWithin (OfCellName verb cell a) = cell < 64
IsFormWithin (OfTwoNames verb a b) = Unit {0}
IsFormWithin (OfBare verb) = ⊥
IsFormWithin (OfSub a pos n b) = (pos < 2 ^ 64) × (n < 2 ^ 64)

abbrev pub IsWithin : Command → Type 0
IsWithin command = IsFormWithin (form_of command)

abbrev pub form_names : Form → List (List ℕ)
form_names (OfName verb a) = a ∷ []
form_names (OfNameText verb a text) = a ∷ []
form_names (OfNameNumber verb a n) = a ∷ []
form_names (OfNameCell verb a cell) = a ∷ []
form_names (OfCellName verb cell a) = a ∷ []
form_names (OfTwoNames verb a b) = a ∷ b ∷ []
form_names (OfBare verb) = []
form_names (OfSub a pos n b) = a ∷ b ∷ []

-- the names in a command
abbrev pub names_in : Command → List (List ℕ)
names_in command = form_names (form_of command)

abbrev pub form_text : Form → Option Text
form_text (OfNameText verb a text) = Some text
form_text _ = None

-- the text of a command, where it has one
abbrev pub text_of : Command → Option Text
text_of command = form_text (form_of command)
