-- How a script is spelled, apart from any reading.
-- It takes from the reading side only which lines are ignored.
use Rattle.std.specs.Prelude.{◌≡◌, ◌≢◌, ℕ, ◌+◌, ◌≤◌, ◌⊎◌, true, List, [], ◌∷◌, ◌++◌, length, map, Option, Some, None, codes}
use Rattle.std.specs.List.{flat_map}
use Rattle.plain_cord.specs.declared.script.Session.{Session}
use Rattle.plain_cord.specs.declared.script.Script.{Script}
use Rattle.script_words.specs.declared.verbs.Setting.{Setting}
use Rattle.script_words.specs.declared.verbs.Setting.TheVariants as settings
use Rattle.script_reader.specs.declared.progress.Item.{Item}
use Rattle.script_reader.specs.declared.progress.Item.TheVariants as items
use Rattle.script_reader.specs.Scripts.{is_ignored}
use Rattle.script_reader.specs.Spelling.{SpellsItem}

-- ---- lines

abbrev pub HasNoNewline : List ℕ → Type 0
HasNoNewline [] = Unit {0}
HasNoNewline (c ∷ cs) = (c ≢ 10) × HasNoNewline cs

-- Each line ends with a newline. The last may lack it, if it isn't empty.
abbrev pub IsWritten : List ℕ → List (List ℕ) → Type 0
IsWritten bytes [] = bytes ≡ []
IsWritten bytes (line ∷ lines) = HasNoNewline line
    × (((after : List ℕ) × (bytes ≡ line ++ 10 ∷ after) × IsWritten after lines) ⊎ ((bytes ≡ line) × (line ≢ []) × (lines ≡ [])))

-- the lines spell the items in order, with empty lines and comments anywhere
abbrev pub SpellsLines : List (List ℕ) → List Item → Type 0
SpellsLines [] said = said ≡ []
SpellsLines (line ∷ lines) said = ((is_ignored line ≡ true) × SpellsLines lines said)
    ⊎ ((item : Item) × (rest : List Item) × (said ≡ item ∷ rest) × SpellsItem line item × SpellsLines lines rest)

-- ---- options

-- the numbers that the options of one kind give
abbrev pub put : Option ℕ → List ℕ → List ℕ
put None ns = ns
put (Some n) ns = n ∷ ns

abbrev pub numbers : (Setting → Option ℕ) → List Setting → List ℕ
numbers f [] = []
numbers f (s ∷ ss) = put (f s) (numbers f ss)

abbrev pub pool_number : Setting → Option ℕ
pool_number (settings.Pool n) = Some n
pool_number (settings.Passes n) = None
pool_number (settings.Stride n) = None

abbrev pub passes_number : Setting → Option ℕ
passes_number (settings.Pool n) = None
passes_number (settings.Passes n) = Some n
passes_number (settings.Stride n) = None

abbrev pub stride_number : Setting → Option ℕ
stride_number (settings.Pool n) = None
stride_number (settings.Passes n) = None
stride_number (settings.Stride n) = Some n

-- given once, or not at all: then it is the default
abbrev pub IsGiven : ℕ → List ℕ → ℕ → Type 0
IsGiven default ns n = ((ns ≡ []) × (n ≡ default)) ⊎ (ns ≡ n ∷ [])

-- each option at most once, in any order
pub record AreGiven (given : List Setting) (script : Script) : Type 0 where
  pub pool : IsGiven 65536 (numbers pool_number given) script.pool
  pub passes : IsGiven 16384 (numbers passes_number given) script.passes
  pub stride : IsGiven 0 (numbers stride_number given) script.stride

-- ---- sessions

abbrev pub session_items : Session → List Item
session_items s = items.Begin s.name ∷ (map items.Do s.commands ++ items.End ∷ [])

-- what a script says, line by line
abbrev pub script_items : List Setting → List Session → List Item
script_items given sessions = map items.Set given ++ flat_map session_items sessions

abbrev pub NoneIsCalled : List ℕ → List Session → Type 0
NoneIsCalled name [] = Unit {0}
NoneIsCalled name (s ∷ ss) = (s.name ≢ name) × NoneIsCalled name ss

abbrev pub NamesDiffer : List Session → Type 0
NamesDiffer [] = Unit {0}
NamesDiffer (s ∷ ss) = NoneIsCalled s.name ss × NamesDiffer ss

abbrev pub commands_in : List Session → ℕ
commands_in [] = 0
commands_in (s ∷ ss) = length s.commands + commands_in ss

-- ---- the whole

pub record Spells (bytes : List ℕ) (script : Script) : Type 0 where
  pub lines : List (List ℕ)
  pub options : List Setting
  pub written : IsWritten bytes (codes "cords 1" ∷ lines)
  pub spelled : SpellsLines lines (script_items options script.sessions)
  pub given : AreGiven options script
  pub differ : NamesDiffer script.sessions
  pub few : length script.sessions ≤ 16
  pub short : commands_in script.sessions ≤ 16384
