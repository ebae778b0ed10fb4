-- The table of first words: what each is followed by, and what it makes. A command is described here, once.
use Rattle.std.specs.Prelude.{ℕ, ◌-◌, ◌^◌, List, [], ◌∷◌, Option, Some, None, if◌then◌else◌, codes}
use Rattle.std.specs.List.{list_any}
use Rattle.std.specs.Option.{option_map}
use Rattle.std.specs.Str.{bytes_eq}
use Rattle.plain_cord.specs.declared.script.Text.{Text}
use Rattle.plain_cord.specs.declared.script.Command.{Command}
use Rattle.plain_cord.specs.declared.script.Command.TheVariants as commands
use Rattle.script_words.specs.declared.verbs.NameVerb.{NameVerb}
use Rattle.script_words.specs.declared.verbs.NameTextVerb.{NameTextVerb}
use Rattle.script_words.specs.declared.verbs.NameNumberVerb.{NameNumberVerb}
use Rattle.script_words.specs.declared.verbs.NameCellVerb.{NameCellVerb}
use Rattle.script_words.specs.declared.verbs.CellNameVerb.{CellNameVerb}
use Rattle.script_words.specs.declared.verbs.TwoNamesVerb.{TwoNamesVerb}
use Rattle.script_words.specs.declared.verbs.BareVerb.{BareVerb}
use Rattle.script_words.specs.declared.verbs.CommandVerb.{CommandVerb}
use Rattle.script_words.specs.declared.verbs.SettingVerb.{SettingVerb}
use Rattle.script_words.specs.declared.verbs.Setting.{Setting}
use Rattle.script_words.specs.declared.verbs.FirstWord.{FirstWord}
use Rattle.script_words.specs.declared.verbs.NameVerb.TheVariants as name_verbs
use Rattle.script_words.specs.declared.verbs.NameTextVerb.TheVariants as name_text_verbs
use Rattle.script_words.specs.declared.verbs.NameNumberVerb.TheVariants as name_number_verbs
use Rattle.script_words.specs.declared.verbs.NameCellVerb.TheVariants as name_cell_verbs
use Rattle.script_words.specs.declared.verbs.CellNameVerb.TheVariants as cell_name_verbs
use Rattle.script_words.specs.declared.verbs.TwoNamesVerb.TheVariants as two_names_verbs
use Rattle.script_words.specs.declared.verbs.BareVerb.TheVariants as bare_verbs
use Rattle.script_words.specs.declared.verbs.CommandVerb.TheVariants as kinds
use Rattle.script_words.specs.declared.verbs.SettingVerb.TheVariants as setting_verbs
use Rattle.script_words.specs.declared.verbs.Verb.TheVariants as verbs
use Rattle.script_words.specs.declared.verbs.Setting.TheVariants as settings
use Rattle.script_words.specs.declared.verbs.FirstWord.TheVariants as firsts

-- ---- the words

-- words, and what each is
abbrev pub Words : Type 0 → Type 0
Words V = List (List ℕ × V)

-- what the word is, where it is one of these
abbrev pub found_in : {V : Type 0} → Words V → List ℕ → Option V
found_in [] word = None
found_in (entry ∷ more) word = if bytes_eq word entry.0 then Some entry.1 else found_in more word

abbrev pub name_words : Words NameVerb
name_words = (codes "clear", name_verbs.Clear) ∷ (codes "sum", name_verbs.Sum) ∷ (codes "size", name_verbs.Size) ∷ (codes "print", name_verbs.Print) ∷ []

abbrev pub name_text_words : Words NameTextVerb
name_text_words = (codes "let", name_text_verbs.Let) ∷ (codes "ext", name_text_verbs.Ext) ∷ (codes "append", name_text_verbs.Append) ∷
    (codes "prepend", name_text_verbs.Prepend) ∷ (codes "find", name_text_verbs.Find) ∷
    (codes "starts", name_text_verbs.Starts) ∷ (codes "ends", name_text_verbs.Ends) ∷ []

abbrev pub name_number_words : Words NameNumberVerb
name_number_words = (codes "cutfront", name_number_verbs.CutFront) ∷ (codes "cutback", name_number_verbs.CutBack) ∷ (codes "at", name_number_verbs.At) ∷
    (codes "setsum", name_number_verbs.SetSum) ∷ []

abbrev pub name_cell_words : Words NameCellVerb
name_cell_words = (codes "put", name_cell_verbs.Put) ∷ (codes "swap", name_cell_verbs.Swap) ∷ []

abbrev pub cell_name_words : Words CellNameVerb
cell_name_words = (codes "take", cell_name_verbs.Take) ∷ (codes "peek", cell_name_verbs.Peek) ∷ []

abbrev pub two_names_words : Words TwoNamesVerb
two_names_words = (codes "copy", two_names_verbs.Copy) ∷ (codes "join", two_names_verbs.Join) ∷ (codes "joinfront", two_names_verbs.JoinFront) ∷
    (codes "compare", two_names_verbs.Compare) ∷ []

abbrev pub bare_words : Words BareVerb
bare_words = (codes "snap", bare_verbs.Snap) ∷ (codes "walk", bare_verbs.Walk) ∷ (codes "unsnap", bare_verbs.Unsnap) ∷ []

-- goes on where nothing was found
abbrev pub or_else : {V : Type 0} → Option V → Option V → Option V
or_else None other = other
or_else (Some v) other = Some v

-- the first words of commands, by the kinds of what stands behind them
abbrev pub command_word : List ℕ → Option CommandVerb
command_word word =
    or_else (option_map kinds.NameText (found_in name_text_words word))
    (or_else (option_map kinds.NameNumber (found_in name_number_words word))
    (or_else (option_map kinds.TwoNames (found_in two_names_words word))
    (or_else (option_map kinds.Name (found_in name_words word))
    (or_else (option_map kinds.NameCell (found_in name_cell_words word))
    (or_else (option_map kinds.CellName (found_in cell_name_words word))
    (or_else (option_map kinds.Bare (found_in bare_words word))
    (if bytes_eq word (codes "sub") then Some kinds.Sub else None)))))))

abbrev pub setting_words : Words SettingVerb
setting_words = (codes "pool", setting_verbs.Pool) ∷ (codes "passes", setting_verbs.Passes) ∷ (codes "stride", setting_verbs.Stride) ∷ []

-- The first words of lines that aren't built yet. A word that leaves this list is read as the table has it.
abbrev pub unbuilt_words : List (List ℕ)
unbuilt_words = codes "stride" ∷ codes "snap" ∷ codes "walk" ∷ codes "unsnap" ∷ []

abbrev pub setting_first : Option SettingVerb → FirstWord
setting_first None = firsts.Unknown
setting_first (Some verb) = firsts.Built (verbs.Set verb)

abbrev pub other_word : List ℕ → FirstWord
other_word word =
    if bytes_eq word (codes "session") then firsts.Built verbs.Session
    else (if bytes_eq word (codes "end") then firsts.Built verbs.End
    else setting_first (found_in setting_words word))

abbrev pub first_of : Option CommandVerb → FirstWord → FirstWord
first_of None other = other
first_of (Some verb) other = firsts.Built (verbs.Do verb)

-- what the word is as the first of a line
abbrev pub word_of_table : List ℕ → FirstWord
word_of_table word = if list_any (bytes_eq word) unbuilt_words then firsts.Unbuilt else first_of (command_word word) (other_word word)

-- ---- limits on what stands behind them

-- the least length of a text
abbrev pub least_of : NameTextVerb → ℕ
least_of name_text_verbs.Ext = 16
least_of verb = 0

-- the greatest number
abbrev pub most_of : NameNumberVerb → ℕ
most_of name_number_verbs.CutFront = 2 ^ 64 - 1
most_of name_number_verbs.CutBack = 2 ^ 64 - 1
most_of name_number_verbs.At = 2 ^ 64 - 1
most_of name_number_verbs.SetSum = 2 ^ 32 - 1

abbrev pub least_setting : SettingVerb → ℕ
least_setting setting_verbs.Pool = 1
least_setting setting_verbs.Passes = 1
least_setting setting_verbs.Stride = 0

abbrev pub most_setting : SettingVerb → ℕ
most_setting setting_verbs.Pool = 262144
most_setting setting_verbs.Passes = 262144
most_setting setting_verbs.Stride = 1000000

-- ---- what they make

abbrev pub name_command : NameVerb → List ℕ → Command
name_command name_verbs.Clear a = commands.Clear a
name_command name_verbs.Sum a = commands.Sum a
name_command name_verbs.Size a = commands.Size a
name_command name_verbs.Print a = commands.Print a

abbrev pub name_text_command : NameTextVerb → List ℕ → Text → Command
name_text_command name_text_verbs.Let a text = commands.Let a text
name_text_command name_text_verbs.Ext a text = commands.Ext a text
name_text_command name_text_verbs.Append a text = commands.Append a text
name_text_command name_text_verbs.Prepend a text = commands.Prepend a text
name_text_command name_text_verbs.Find a text = commands.Find a text
name_text_command name_text_verbs.Starts a text = commands.Starts a text
name_text_command name_text_verbs.Ends a text = commands.Ends a text

abbrev pub name_number_command : NameNumberVerb → List ℕ → ℕ → Command
name_number_command name_number_verbs.CutFront a n = commands.CutFront a n
name_number_command name_number_verbs.CutBack a n = commands.CutBack a n
name_number_command name_number_verbs.At a n = commands.At a n
name_number_command name_number_verbs.SetSum a n = commands.SetSum a n

abbrev pub name_cell_command : NameCellVerb → List ℕ → ℕ → Command
name_cell_command name_cell_verbs.Put a cell = commands.Put a cell
name_cell_command name_cell_verbs.Swap a cell = commands.Swap a cell

abbrev pub cell_name_command : CellNameVerb → ℕ → List ℕ → Command
cell_name_command cell_name_verbs.Take cell a = commands.Take cell a
cell_name_command cell_name_verbs.Peek cell a = commands.Peek cell a

abbrev pub two_names_command : TwoNamesVerb → List ℕ → List ℕ → Command
two_names_command two_names_verbs.Copy a b = commands.Copy a b
two_names_command two_names_verbs.Join a b = commands.Join a b
two_names_command two_names_verbs.JoinFront a b = commands.JoinFront a b
two_names_command two_names_verbs.Compare a b = commands.Compare a b

abbrev pub bare_command : BareVerb → Command
bare_command bare_verbs.Snap = commands.Snap
bare_command bare_verbs.Walk = commands.Walk
bare_command bare_verbs.Unsnap = commands.Unsnap

abbrev pub setting_of : SettingVerb → ℕ → Setting
setting_of setting_verbs.Pool n = settings.Pool n
setting_of setting_verbs.Passes n = settings.Passes n
setting_of setting_verbs.Stride n = settings.Stride n

-- ---- a command by the kinds of its arguments

pub data Form : Type 0 where
  OfName : (verb : NameVerb) (a : List ℕ) → Form
  OfNameText : (verb : NameTextVerb) (a : List ℕ) (text : Text) → Form
  OfNameNumber : (verb : NameNumberVerb) (a : List ℕ) (n : ℕ) → Form
  OfNameCell : (verb : NameCellVerb) (a : List ℕ) (cell : ℕ) → Form
  OfCellName : (verb : CellNameVerb) (cell : ℕ) (a : List ℕ) → Form
  OfTwoNames : (verb : TwoNamesVerb) (a b : List ℕ) → Form
  OfBare : (verb : BareVerb) → Form
  OfSub : (a : List ℕ) (pos n : ℕ) (b : List ℕ) → Form

-- the command of a form, and the form of a command
abbrev pub command_of : Form → Command
command_of (OfName verb a) = name_command verb a
command_of (OfNameText verb a text) = name_text_command verb a text
command_of (OfNameNumber verb a n) = name_number_command verb a n
command_of (OfNameCell verb a cell) = name_cell_command verb a cell
command_of (OfCellName verb cell a) = cell_name_command verb cell a
command_of (OfTwoNames verb a b) = two_names_command verb a b
command_of (OfBare verb) = bare_command verb
command_of (OfSub a pos n b) = commands.Sub a pos n b

abbrev pub form_of : Command → Form
form_of (commands.Clear a) = OfName name_verbs.Clear a
form_of (commands.Sum a) = OfName name_verbs.Sum a
form_of (commands.Size a) = OfName name_verbs.Size a
form_of (commands.Print a) = OfName name_verbs.Print a
form_of (commands.Let a text) = OfNameText name_text_verbs.Let a text
form_of (commands.Ext a text) = OfNameText name_text_verbs.Ext a text
form_of (commands.Append a text) = OfNameText name_text_verbs.Append a text
form_of (commands.Prepend a text) = OfNameText name_text_verbs.Prepend a text
form_of (commands.Find a text) = OfNameText name_text_verbs.Find a text
form_of (commands.Starts a text) = OfNameText name_text_verbs.Starts a text
form_of (commands.Ends a text) = OfNameText name_text_verbs.Ends a text
form_of (commands.CutFront a n) = OfNameNumber name_number_verbs.CutFront a n
form_of (commands.CutBack a n) = OfNameNumber name_number_verbs.CutBack a n
form_of (commands.At a n) = OfNameNumber name_number_verbs.At a n
form_of (commands.SetSum a n) = OfNameNumber name_number_verbs.SetSum a n
form_of (commands.Put a cell) = OfNameCell name_cell_verbs.Put a cell
form_of (commands.Swap a cell) = OfNameCell name_cell_verbs.Swap a cell
form_of (commands.Take cell a) = OfCellName cell_name_verbs.Take cell a
form_of (commands.Peek cell a) = OfCellName cell_name_verbs.Peek cell a
form_of (commands.Copy a b) = OfTwoNames two_names_verbs.Copy a b
form_of (commands.Join a b) = OfTwoNames two_names_verbs.Join a b
form_of (commands.JoinFront a b) = OfTwoNames two_names_verbs.JoinFront a b
form_of (commands.Compare a b) = OfTwoNames two_names_verbs.Compare a b
form_of commands.Snap = OfBare bare_verbs.Snap
form_of commands.Walk = OfBare bare_verbs.Walk
form_of commands.Unsnap = OfBare bare_verbs.Unsnap
form_of (commands.Sub a pos n b) = OfSub a pos n b

abbrev pub verb_in : Form → CommandVerb
verb_in (OfName verb a) = kinds.Name verb
verb_in (OfNameText verb a text) = kinds.NameText verb
verb_in (OfNameNumber verb a n) = kinds.NameNumber verb
verb_in (OfNameCell verb a cell) = kinds.NameCell verb
verb_in (OfCellName verb cell a) = kinds.CellName verb
verb_in (OfTwoNames verb a b) = kinds.TwoNames verb
verb_in (OfBare verb) = kinds.Bare verb
verb_in (OfSub a pos n b) = kinds.Sub
