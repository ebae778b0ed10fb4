-- What makes a line faulty, apart from the order in which a reader looks: one law for each of these causes.
use Rattle.std.specs.Prelude.{◌≡◌, ◌≢◌, ℕ, ◌≤◌, true, false, List, [], ◌∷◌, length, Option, Some, Err, is_none}
use Rattle.std.specs.List.{list_all, list_any}
use Rattle.plain_cord.specs.declared.script.Command.{Command}
use Rattle.plain_cord.specs.declared.script.Session.{Session}
use Rattle.script_words.specs.declared.fault.Cause.TheVariants as causes
use Rattle.script_words.specs.declared.verbs.Verb.{Verb}
use Rattle.script_words.specs.declared.verbs.Setting.{Setting}
use Rattle.script_words.specs.declared.verbs.Setting.TheVariants as settings
use Rattle.script_words.specs.declared.verbs.FirstWord.TheVariants as firsts
use Rattle.script_words.specs.Words.{is_shown}
use Rattle.script_words.specs.Table.{word_of_table}
use Rattle.script_words.specs.Spelling.{joined}
use Rattle.script_reader.specs.declared.progress.Item.TheVariants as items
use Rattle.script_reader.specs.declared.progress.Progress.{Progress}
use Rattle.script_reader.specs.declared.progress.Settings.{Settings}
use Rattle.script_reader.specs.Scripts.{is_ignored, is_fresh, is_placed, is_called, step}
use Rattle.script_reader.specs.Spelling.{SpellsItem}

abbrev pub HasNoSpace : List ℕ → Type 0
HasNoSpace [] = Unit {0}
HasNoSpace (c ∷ cs) = (c ≢ 32) × HasNoSpace cs

-- a line that is neither empty nor a comment, whose bytes are all shown, with this first word
pub record Begins (line word : List ℕ) (rest : Option (List ℕ)) : Type 0 where
  pub said : is_ignored line ≡ false
  pub shown : list_all is_shown line ≡ true
  pub words : line ≡ joined word rest
  pub first : HasNoSpace word

-- a byte that isn't shown, whatever else the line has
abbrev pub BytesAreTold : Type 0
BytesAreTold = (p : Progress) (line : List ℕ) → is_ignored line ≡ false → list_all is_shown line ≡ false → step p line ≡ Err causes.Byte

-- a first word that is none, or isn't built, whatever stands behind it and wherever the line stands
abbrev pub CommandsAreTold : Type 0
CommandsAreTold = (p : Progress) (line word : List ℕ) (rest : Option (List ℕ)) → Begins line word rest → word_of_table word ≡ firsts.Unknown
    → step p line ≡ Err causes.Command

abbrev pub UnbuiltAreTold : Type 0
UnbuiltAreTold = (p : Progress) (line word : List ℕ) (rest : Option (List ℕ)) → Begins line word rest → word_of_table word ≡ firsts.Unbuilt
    → step p line ≡ Err causes.Unbuilt

-- a line that may not stand there, whatever stands behind its first word
abbrev pub MisplacedAreTold : Type 0
MisplacedAreTold = (p : Progress) (line word : List ℕ) (rest : Option (List ℕ)) (verb : Verb) → Begins line word rest
    → word_of_table word ≡ firsts.Built verb → is_placed p verb ≡ false → step p line ≡ Err causes.Misplaced

-- the number that an option was given so far, if any
abbrev pub number_given : Settings → Setting → Option ℕ
number_given given (settings.Pool n) = given.pool
number_given given (settings.Passes n) = given.passes
number_given given (settings.Stride n) = given.stride

-- an option that is spelled soundly and stands before the first session, for the second time
abbrev pub OptionsAreTold : Type 0
OptionsAreTold = (p : Progress) (line : List ℕ) (setting : Setting) (n : ℕ) → SpellsItem line (items.Set setting) → is_fresh p ≡ true
    → number_given p.settings setting ≡ Some n → step p line ≡ Err causes.Duplicate

-- a session that is spelled soundly and stands outside the others, with the name of one of them
abbrev pub DuplicatesAreTold : Type 0
DuplicatesAreTold = (p : Progress) (line name : List ℕ) → SpellsItem line (items.Begin name) → is_none p.current ≡ true
    → list_any (is_called name) p.done ≡ true → step p line ≡ Err causes.Duplicate

-- a 17th session with a new name, and a command behind 16,384 others
abbrev pub SessionsAreCounted : Type 0
SessionsAreCounted = (p : Progress) (line name : List ℕ) → SpellsItem line (items.Begin name) → is_none p.current ≡ true
    → list_any (is_called name) p.done ≡ false → 16 ≤ length p.done → step p line ≡ Err causes.Many

abbrev pub CommandsAreCounted : Type 0
CommandsAreCounted = (p : Progress) (line : List ℕ) (command : Command) (session : Session) → SpellsItem line (items.Do command) → p.current ≡ Some session
    → 16384 ≤ p.commands → step p line ≡ Err causes.Many
