-- A text, from left to right.
use Rattle.std.specs.Prelude.{ℕ, Bool, not, ◌+◌, ◌-◌, ◌*◌, ◌&&◌, ◌||◌, List, [], ◌∷◌, ◌++◌, length, Option, Some, None, Result, Ok, Err, nat_le, ◌==◌}
use Rattle.std.specs.Prelude.{if◌then◌else◌}
use Rattle.script_words.specs.declared.fault.Cause.{Cause}
use Rattle.script_words.specs.declared.fault.Cause.TheVariants as causes
use Rattle.plain_cord.specs.declared.script.Text.{Text}
use Rattle.script_words.specs.declared.texts.Mode.{Mode}
use Rattle.script_words.specs.declared.texts.Mode.TheVariants.{Plain, Escape, High, Low}
use Rattle.script_words.specs.declared.texts.Scan.{Scan}
use Rattle.script_words.specs.declared.texts.Scan.TheVariants.{Closed, Goes, Byte, Fault}
use Rattle.script_words.specs.Reading.{◌>>=◌}
use Rattle.script_words.specs.Words.{is_digit, is_shown}
use Rattle.script_words.specs.Numbers.{decimal_at}

abbrev pub hex_value : ℕ → Option ℕ
hex_value c = if is_digit c then Some (c - 48) else (if nat_le 97 c && nat_le c 102 then Some (c - 87) else None)

-- a byte that is its own spelling
abbrev pub stands_for_itself : ℕ → Bool
stands_for_itself c = is_shown c && not (c == 34) && not (c == 92)

abbrev pub low_of : Option ℕ → Option ℕ → Scan
low_of None low = Fault
low_of (Some h) None = Fault
low_of (Some h) (Some l) = Byte (16 * h + l)

abbrev pub high_of : ℕ → Option ℕ → Scan
high_of c None = Fault
high_of c (Some h) = Goes (Low c)

-- what a byte of the text does, by what stands before it
abbrev pub scan : Mode → ℕ → Scan
scan Plain c = if c == 34 then Closed else (if c == 92 then Goes Escape else (if is_shown c then Byte c else Fault))
scan Escape c = if c == 34 || c == 92 then Byte c else (if c == 110 then Byte 10 else (if c == 120 then Goes High else Fault))
scan High c = high_of c (hex_value c)
scan (Low h) c = low_of (hex_value h) (hex_value c)

abbrev pub with_byte : ℕ → Result (List ℕ × List ℕ) Cause → Result (List ℕ × List ℕ) Cause
with_byte b read = read >>= λ x. Ok (b ∷ x.0, x.1)

abbrev pub follow : Scan → (Mode → Result (List ℕ × List ℕ) Cause) → List ℕ → Result (List ℕ × List ℕ) Cause
follow Closed more rest = Ok ([], rest)
follow (Goes mode) more rest = more mode
follow (Byte b) more rest = with_byte b (more Plain)
follow Fault more rest = Err causes.Text

-- the bytes up to the closing quote, and what stands behind it
abbrev pub piece_at : Mode → List ℕ → Result (List ℕ × List ℕ) Cause
piece_at mode [] = Err causes.Text
piece_at mode (c ∷ cs) = follow (scan mode c) (λ m. piece_at m cs) cs

-- what was read before, and what is read behind it
abbrev pub with_front : List ℕ → Result (List ℕ × List ℕ) Cause → Result (List ℕ × List ℕ) Cause
with_front front read = read >>= λ x. Ok (front ++ x.0, x.1)

abbrev pub count_is : Option ℕ → Result ℕ Cause
count_is None = Err causes.Text
count_is (Some n) = if nat_le 1 n && nat_le n 1048576 then Ok n else Err causes.Text

-- how often the bytes stand
abbrev pub times_at : List ℕ → Result ℕ Cause
times_at [] = Ok 1
times_at (c ∷ cs) = if c == 42 then count_is (decimal_at cs) else Err causes.Text

abbrev pub quoted_at : List ℕ → Result (List ℕ × List ℕ) Cause
quoted_at [] = Err causes.Text
quoted_at (c ∷ cs) = if c == 34 then piece_at Plain cs else Err causes.Text

-- at least so many bytes, and 1048576 at most
unfoldable pub text_at : ℕ → List ℕ → Result Text Cause
text_at least part = do
  piece ← quoted_at part
  times ← times_at piece.1
  if nat_le least (length piece.0 * times) && nat_le (length piece.0 * times) 1048576 then Ok (record { piece = piece.0; times = times }) else Err causes.Text
