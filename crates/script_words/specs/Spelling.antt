-- How names, numbers and texts are spelled, apart from any reading.
-- It takes from the reading side only tests of one byte or word.
use Rattle.std.specs.Prelude.{◌≡◌, ◌≢◌, ℕ, ◌+◌, ◌-◌, ◌*◌, ◌^◌, ◌<◌, ◌≤◌, ◌⊎◌, true, List, [], ◌∷◌, ◌++◌, length, Option, Some, None, is_some, unwrap_or}
use Rattle.std.specs.List.{list_all}
use Rattle.plain_cord.specs.declared.script.Text.{Text}
use Rattle.script_words.specs.Words.{is_digit, is_shown, names}
use Rattle.script_words.specs.Texts.{hex_value}

-- ---- numbers

-- the number that the digits stand for, behind those that stand for n
abbrev pub number_after : ℕ → List ℕ → ℕ
number_after n [] = n
number_after n (c ∷ cs) = number_after (10 * n + (c - 48)) cs

-- some digits, of which a first 0 is the only one
abbrev pub HasNoNeedlessZero : List ℕ → Type 0
HasNoNeedlessZero [] = ⊥
HasNoNeedlessZero (c ∷ []) = Unit {0}
HasNoNeedlessZero (c ∷ d ∷ cs) = c ≢ 48

pub record SpellsNumber (word : List ℕ) (n : ℕ) : Type 0 where
  pub digits : list_all is_digit word ≡ true
  pub lean : HasNoNeedlessZero word
  pub stands : number_after 0 word ≡ n
  pub small : n < 2 ^ 64

-- ---- texts

-- the number that a hexadecimal digit stands for
abbrev pub hex_digit_of : ℕ → ℕ
hex_digit_of c = unwrap_or (hex_value c) 0

abbrev pub IsHex : ℕ → Type 0
IsHex c = is_some (hex_value c) ≡ true

-- the spellings of one byte: itself, or an escape
abbrev pub SpellsByte : List ℕ → ℕ → Type 0
SpellsByte p b = ((p ≡ b ∷ []) × (is_shown b ≡ true) × (b ≢ 34) × (b ≢ 92))
    ⊎ (((p ≡ 92 ∷ b ∷ []) × ((b ≡ 34) ⊎ (b ≡ 92)))
    ⊎ (((p ≡ 92 ∷ 110 ∷ []) × (b ≡ 10))
    ⊎ ((h : ℕ) × (l : ℕ) × (p ≡ 92 ∷ 120 ∷ h ∷ l ∷ []) × IsHex h × IsHex l × (b ≡ 16 * hex_digit_of h + hex_digit_of l))))

abbrev pub SpellsBytes : List ℕ → List ℕ → Type 0
SpellsBytes inner [] = inner ≡ []
SpellsBytes inner (b ∷ bs) = (p : List ℕ) × (rest : List ℕ) × (inner ≡ p ++ rest) × SpellsByte p b × SpellsBytes rest bs

-- nothing stands for once
abbrev pub SpellsTimes : List ℕ → ℕ → Type 0
SpellsTimes tail n = ((tail ≡ []) × (n ≡ 1)) ⊎ ((word : List ℕ) × (tail ≡ 42 ∷ word) × SpellsNumber word n × (1 ≤ n) × (n ≤ 1048576))

pub record SpellsText (least : ℕ) (part : List ℕ) (text : Text) : Type 0 where
  pub inner : List ℕ
  pub tail : List ℕ
  pub quoted : part ≡ 34 ∷ (inner ++ 34 ∷ tail)
  pub bytes : SpellsBytes inner text.piece
  pub times : SpellsTimes tail text.times
  pub long : least ≤ length text.piece * text.times
  pub fits : length text.piece * text.times ≤ 1048576

-- ---- words

abbrev pub IsName : List ℕ → Type 0
IsName a = names a ≡ true

-- a word, and behind a space the rest, where there is one
abbrev pub joined : List ℕ → Option (List ℕ) → List ℕ
joined word None = word
joined word (Some rest) = word ++ 32 ∷ rest
