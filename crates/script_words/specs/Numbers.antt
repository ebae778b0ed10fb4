-- Numbers in decimal.
use Rattle.std.specs.Prelude.{ℕ, ◌+◌, ◌-◌, ◌*◌, ◌^◌, ◌&&◌, List, [], ◌∷◌, length, Option, Some, None, Result, Ok, Err, nat_lt, nat_le, ◌==◌, if◌then◌else◌}
use Rattle.script_words.specs.declared.fault.Cause.{Cause}
use Rattle.script_words.specs.declared.fault.Cause.TheVariants as causes
use Rattle.script_words.specs.Words.{is_digit}

-- the number that digits stand for, behind those that stand for n
abbrev pub digits_from : ℕ → List ℕ → Option ℕ
digits_from n [] = Some n
digits_from n (c ∷ cs) = if is_digit c then digits_from (10 * n + (c - 48)) cs else None

-- a number of 64 bits
abbrev pub small : Option ℕ → Option ℕ
small None = None
small (Some n) = if nat_lt n (2 ^ 64) then Some n else None

-- without a leading zero, unless it is 0
abbrev pub decimal_at : List ℕ → Option ℕ
decimal_at [] = None
decimal_at (c ∷ cs) = if c == 48 && nat_lt 0 (length cs) then None else small (digits_from 0 (c ∷ cs))

abbrev pub in_range : ℕ → ℕ → Option ℕ → Result ℕ Cause
in_range least most None = Err causes.Number
in_range least most (Some n) = if nat_le least n && nat_le n most then Ok n else Err causes.Number

abbrev pub number_at : ℕ → ℕ → List ℕ → Result ℕ Cause
number_at least most word = in_range least most (decimal_at word)
