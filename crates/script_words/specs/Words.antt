-- The words of a line, from left to right.
use Rattle.std.specs.Prelude.{ℕ, Bool, false, ◌&&◌, ◌||◌, List, [], ◌∷◌, length, Option, Some, None, Result, Ok, Err, nat_lt, nat_le, ◌==◌, if◌then◌else◌}
use Rattle.std.specs.Prelude.{is_none}
use Rattle.std.specs.List.{list_all}
use Rattle.script_words.specs.declared.fault.Cause.{Cause}
use Rattle.script_words.specs.declared.fault.Cause.TheVariants as causes
use Rattle.script_words.specs.Reading.{◌>>=◌}

-- what stands before the first c, and what behind it, where c stands in it
abbrev pub cut : ℕ → List ℕ → List ℕ × Option (List ℕ)
cut c [] = ([], None)
cut c (b ∷ bs) = if b == c then ([], Some bs) else (b ∷ (cut c bs).0, (cut c bs).1)

-- the next word, which isn't empty, and what stands behind its space
abbrev pub word_at : Option (List ℕ) → Result (List ℕ × Option (List ℕ)) Cause
word_at None = Err causes.Words
word_at (Some rest) = if length (cut 32 rest).0 == 0 then Err causes.Words else Ok (cut 32 rest)

abbrev pub last_word_at : Option (List ℕ) → Result (List ℕ) Cause
last_word_at rest = do
  word ← word_at rest
  if is_none word.1 then Ok word.0 else Err causes.Words

-- all the rest, which isn't empty
abbrev pub part_at : Option (List ℕ) → Result (List ℕ) Cause
part_at None = Err causes.Words
part_at (Some rest) = if length rest == 0 then Err causes.Words else Ok rest

abbrev pub is_letter : ℕ → Bool
is_letter c = nat_le 97 c && nat_le c 122

abbrev pub is_digit : ℕ → Bool
is_digit c = nat_le 48 c && nat_le c 57

abbrev pub is_name_byte : ℕ → Bool
is_name_byte c = is_letter c || is_digit c

-- a byte that a line may have
abbrev pub is_shown : ℕ → Bool
is_shown c = nat_le 32 c && nat_le c 126

-- a name: a letter first, then letters or digits, sixteen bytes at most
abbrev pub names : List ℕ → Bool
names [] = false
names (c ∷ cs) = is_letter c && list_all is_name_byte cs && nat_lt (length cs) 16

abbrev pub name_at : List ℕ → Result (List ℕ) Cause
name_at word = if names word then Ok word else Err causes.Name
