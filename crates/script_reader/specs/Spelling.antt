-- How what a line says is spelled, apart from any reading.
-- It takes from the reading side only the table of first words.
use Rattle.std.specs.Prelude.{◌≡◌, ℕ, ◌≤◌, List, ◌∷◌, ◌++◌, Option, Some, None}
use Rattle.plain_cord.specs.declared.script.Text.{Text}
use Rattle.script_words.specs.declared.verbs.SettingVerb.TheVariants as setting_verbs
use Rattle.script_words.specs.declared.verbs.SettingVerb.{SettingVerb}
use Rattle.script_words.specs.declared.verbs.Setting.{Setting}
use Rattle.script_words.specs.declared.verbs.Setting.TheVariants as settings
use Rattle.script_words.specs.declared.verbs.Verb.{Verb}
use Rattle.script_words.specs.declared.verbs.Verb.TheVariants as verbs
use Rattle.script_words.specs.declared.verbs.FirstWord.TheVariants as firsts
use Rattle.script_reader.specs.declared.progress.Item.{Item}
use Rattle.script_reader.specs.declared.progress.Item.TheVariants as items
use Rattle.script_words.specs.Spelling.{IsName, SpellsNumber, SpellsText, joined}
use Rattle.script_words.specs.Table.{word_of_table, least_of, most_of, least_setting, most_setting, Form, OfName, OfNameText, OfNameNumber, OfNameCell}
use Rattle.script_words.specs.Table.{OfCellName, OfTwoNames, OfBare, OfSub, form_of, verb_in}

abbrev pub setting_verb : Setting → SettingVerb
setting_verb (settings.Pool n) = setting_verbs.Pool
setting_verb (settings.Passes n) = setting_verbs.Passes
setting_verb (settings.Stride n) = setting_verbs.Stride

abbrev pub setting_number : Setting → ℕ
setting_number (settings.Pool n) = n
setting_number (settings.Passes n) = n
setting_number (settings.Stride n) = n

-- what the first word of a line is
abbrev pub verb_for : Item → Verb
verb_for (items.Set setting) = verbs.Set (setting_verb setting)
verb_for (items.Begin name) = verbs.Session
verb_for (items.Do command) = verbs.Do (verb_in (form_of command))
verb_for items.End = verbs.End

-- ---- what stands behind the first word, by its kind

abbrev pub SaysName : Option (List ℕ) → List ℕ → Type 0
SaysName rest a = (rest ≡ Some a) × IsName a

abbrev pub SaysNumber : ℕ → ℕ → Option (List ℕ) → ℕ → Type 0
SaysNumber least most rest n = (word : List ℕ) × (rest ≡ Some word) × SpellsNumber word n × (least ≤ n) × (n ≤ most)

-- the text begins behind the name and one space: all the rest of the line is its part
abbrev pub SaysNameText : ℕ → Option (List ℕ) → List ℕ → Text → Type 0
SaysNameText least rest a text = (part : List ℕ) × (rest ≡ Some (a ++ 32 ∷ part)) × IsName a × SpellsText least part text

abbrev pub SaysNameNumber : ℕ → ℕ → Option (List ℕ) → List ℕ → ℕ → Type 0
SaysNameNumber least most rest a n = (word : List ℕ) × (rest ≡ Some (a ++ 32 ∷ word)) × IsName a × SpellsNumber word n × (least ≤ n) × (n ≤ most)

abbrev pub SaysTwoNames : Option (List ℕ) → List ℕ → List ℕ → Type 0
SaysTwoNames rest a b = (rest ≡ Some (a ++ 32 ∷ b)) × IsName a × IsName b

abbrev pub SaysNumberName : ℕ → ℕ → Option (List ℕ) → ℕ → List ℕ → Type 0
SaysNumberName least most rest n a = (word : List ℕ) × (rest ≡ Some (word ++ 32 ∷ a)) × IsName a × SpellsNumber word n × (least ≤ n) × (n ≤ most)

abbrev pub SaysSub : Option (List ℕ) → List ℕ → ℕ → ℕ → List ℕ → Type 0
SaysSub rest a pos n b = (first : List ℕ) × (second : List ℕ) × (rest ≡ Some (a ++ 32 ∷ (first ++ 32 ∷ (second ++ 32 ∷ b)))) × IsName a × IsName b
    × SpellsNumber first pos × SpellsNumber second n

-- what stands behind the first word of a command
abbrev pub SaysForm : Option (List ℕ) → Form → Type 0
SaysForm rest (OfName verb a) = SaysName rest a
SaysForm rest (OfNameText verb a text) = SaysNameText (least_of verb) rest a text
SaysForm rest (OfNameNumber verb a n) = SaysNameNumber 0 (most_of verb) rest a n
SaysForm rest (OfNameCell verb a cell) = SaysNameNumber 0 63 rest a cell
SaysForm rest (OfCellName verb cell a) = SaysNumberName 0 63 rest cell a
SaysForm rest (OfTwoNames verb a b) = SaysTwoNames rest a b
SaysForm rest (OfBare verb) = rest ≡ None
SaysForm rest (OfSub a pos n b) = SaysSub rest a pos n b

abbrev pub SaysSetting : Option (List ℕ) → Setting → Type 0
SaysSetting rest setting = SaysNumber (least_setting (setting_verb setting)) (most_setting (setting_verb setting)) rest (setting_number setting)

abbrev pub Says : Option (List ℕ) → Item → Type 0
Says rest (items.Set setting) = SaysSetting rest setting
Says rest (items.Begin name) = SaysName rest name
Says rest (items.Do command) = SaysForm rest (form_of command)
Says rest items.End = rest ≡ None

-- the first word, which the table has, and what stands behind it
pub record SpellsItem (line : List ℕ) (item : Item) : Type 0 where
  pub word : List ℕ
  pub rest : Option (List ℕ)
  pub words : line ≡ joined word rest
  pub built : word_of_table word ≡ firsts.Built (verb_for item)
  pub says : Says rest item
