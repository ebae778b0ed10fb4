-- What a line says, and the first fault in it.
use Rattle.std.specs.Prelude.{ℕ, List, Option, Result, Ok, Err, ◌^◌, ◌-◌, if◌then◌else◌, is_none}
use Rattle.std.specs.List.{list_all}
use Rattle.script_words.specs.declared.fault.Cause.{Cause}
use Rattle.script_words.specs.declared.fault.Cause.TheVariants as causes
use Rattle.script_words.specs.Reading.{◌>>=◌}
use Rattle.plain_cord.specs.declared.script.Text.{Text}
use Rattle.plain_cord.specs.declared.script.Command.{Command}
use Rattle.plain_cord.specs.declared.script.Command.TheVariants as commands
use Rattle.script_words.specs.declared.verbs.CommandVerb.{CommandVerb}
use Rattle.script_words.specs.declared.verbs.CommandVerb.TheVariants as kinds
use Rattle.script_words.specs.declared.verbs.Verb.{Verb}
use Rattle.script_words.specs.declared.verbs.Verb.TheVariants as verbs
use Rattle.script_words.specs.declared.verbs.FirstWord.{FirstWord}
use Rattle.script_words.specs.declared.verbs.FirstWord.TheVariants as firsts
use Rattle.script_reader.specs.declared.progress.Item.{Item}
use Rattle.script_reader.specs.declared.progress.Item.TheVariants as items
use Rattle.script_words.specs.Words.{cut, word_at, last_word_at, part_at, name_at, is_shown}
use Rattle.script_words.specs.Numbers.{number_at}
use Rattle.script_words.specs.Texts.{text_at}
use Rattle.script_words.specs.Table.{word_of_table, least_of, most_of, least_setting, most_setting, name_command, name_text_command, name_number_command}
use Rattle.script_words.specs.Table.{name_cell_command, cell_name_command, two_names_command, bare_command, setting_of}

-- a word that is no first word has its own cause, and one that isn't built yet
abbrev pub known : FirstWord → Option (List ℕ) → Result (Verb × Option (List ℕ)) Cause
known firsts.Unknown rest = Err causes.Command
known firsts.Unbuilt rest = Err causes.Unbuilt
known (firsts.Built verb) rest = Ok (verb, rest)

-- the first word, and what stands behind it
unfoldable pub verb_at : List ℕ → Result (Verb × Option (List ℕ)) Cause
verb_at line = if list_all is_shown line then known (word_of_table (cut 32 line).0) (cut 32 line).1 else Err causes.Byte

-- what stands behind the first word: a name alone
unfoldable pub name_line : Option (List ℕ) → Result (List ℕ) Cause
name_line rest = do
  a ← last_word_at rest
  name_at a

-- one of a number alone
unfoldable pub number_line : ℕ → ℕ → Option (List ℕ) → Result ℕ Cause
number_line least most rest = do
  n ← last_word_at rest
  number_at least most n

-- of a name and a text
unfoldable pub name_text_line : ℕ → Option (List ℕ) → Result (List ℕ × Text) Cause
name_text_line least rest = do
  word ← word_at rest
  part ← part_at word.1
  a ← name_at word.0
  text ← text_at least part
  Ok (a, text)

-- of a name and a number
unfoldable pub name_number_line : ℕ → ℕ → Option (List ℕ) → Result (List ℕ × ℕ) Cause
name_number_line least most rest = do
  word ← word_at rest
  number ← last_word_at word.1
  a ← name_at word.0
  n ← number_at least most number
  Ok (a, n)

-- of two names
unfoldable pub two_names_line : Option (List ℕ) → Result (List ℕ × List ℕ) Cause
two_names_line rest = do
  word ← word_at rest
  other ← last_word_at word.1
  a ← name_at word.0
  b ← name_at other
  Ok (a, b)

-- of a number and a name
unfoldable pub number_name_line : ℕ → ℕ → Option (List ℕ) → Result (ℕ × List ℕ) Cause
number_name_line least most rest = do
  number ← word_at rest
  word ← last_word_at number.1
  a ← name_at word
  n ← number_at least most number.0
  Ok (n, a)

-- of a name, two numbers and a name
unfoldable pub sub_line : Option (List ℕ) → Result (List ℕ × ℕ × ℕ × List ℕ) Cause
sub_line rest = do
  first ← word_at rest
  second ← word_at first.1
  third ← word_at second.1
  last ← last_word_at third.1
  a ← name_at first.0
  b ← name_at last
  pos ← number_at 0 (2 ^ 64 - 1) second.0
  n ← number_at 0 (2 ^ 64 - 1) third.0
  Ok (a, pos, n, b)

-- the command that stands behind its first word, by the kinds of its arguments
unfoldable pub command_at : CommandVerb → Option (List ℕ) → Result Command Cause
command_at (kinds.Name verb) rest = do
  a ← name_line rest
  Ok (name_command verb a)
command_at (kinds.NameText verb) rest = do
  x ← name_text_line (least_of verb) rest
  Ok (name_text_command verb x.0 x.1)
command_at (kinds.NameNumber verb) rest = do
  x ← name_number_line 0 (most_of verb) rest
  Ok (name_number_command verb x.0 x.1)
command_at (kinds.NameCell verb) rest = do
  x ← name_number_line 0 63 rest
  Ok (name_cell_command verb x.0 x.1)
command_at (kinds.CellName verb) rest = do
  x ← number_name_line 0 63 rest
  Ok (cell_name_command verb x.0 x.1)
command_at (kinds.TwoNames verb) rest = do
  x ← two_names_line rest
  Ok (two_names_command verb x.0 x.1)
command_at (kinds.Bare verb) rest = if is_none rest then Ok (bare_command verb) else Err causes.Words
command_at kinds.Sub rest = do
  x ← sub_line rest
  Ok (commands.Sub x.0 x.1 x.2 x.3)

-- what the line says behind its first word
unfoldable pub item_at : Verb → Option (List ℕ) → Result Item Cause
item_at (verbs.Set verb) rest = do
  n ← number_line (least_setting verb) (most_setting verb) rest
  Ok (items.Set (setting_of verb n))
item_at verbs.Session rest = do
  name ← name_line rest
  Ok (items.Begin name)
item_at verbs.End rest = if is_none rest then Ok items.End else Err causes.Words
item_at (verbs.Do verb) rest = do
  command ← command_at verb rest
  Ok (items.Do command)
