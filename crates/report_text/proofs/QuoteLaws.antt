-- Quoted bytes are read back a byte at a time, so they split in one way, and no newline is among them.
use Rattle.std.proofs.Common.{◌≡◌, ◌∙◌, sym, ap, ap₂, refl, ℕ, ◌+◌, ◌-◌, ◌*◌, ◌/◌, ◌%◌, ◌<◌, Bool, true, false, if◌then◌else◌, List, [], ◌∷◌, ◌++◌, get_or, drop, arith, nat_le, ◌==◌, ◌&&◌, Option, Some, None, append_assoc, eqb-true}
use Rattle.std.specs.List.{AllByRecursion}
use Rattle.std.proofs.lemmas.Bool.Decides.{nat_tests}
use Rattle.report_text.specs.Quotes.{hex_digit, hex_escape, quoted_byte, quoted_bytes}
use Rattle.report_text.specs.Readable.{IsByte}
use Rattle.report_text.proofs.Runs.{all_pass, all_pass-append}

abbrev hex_value : ℕ → ℕ
hex_value digit = if nat_le digit 57 then digit - 48 else digit - 87

hex_value-digit : (n : ℕ) → n < 16 → hex_value (hex_digit n) ≡ n
hex_value-digit n below = grind (arith, nat_tests)

hex_value-byte : (b : ℕ) → b < 256 → hex_value (hex_digit (b / 16)) * 16 + hex_value (hex_digit (b % 16)) ≡ b
hex_value-byte b below =
    let high : hex_value (hex_digit (b / 16)) ≡ b / 16 = hex_value-digit (b / 16) (omega arith) in
    let low : hex_value (hex_digit (b % 16)) ≡ b % 16 = hex_value-digit (b % 16) (omega arith) in
    ap (λ n. n * 16 + hex_value (hex_digit (b % 16))) high ∙ (ap (λ n. b / 16 * 16 + n) low ∙ omega arith)

-- a byte, or none at the closing quote, and what is behind it
abbrev Read : Type 0
Read = Option ℕ × List ℕ

abbrev unescaped : List ℕ → Read
unescaped [] = (None, [])
unescaped (c ∷ rest) = if c == 34 then (Some 34, rest) else (if c == 92 then (Some 92, rest) else (if c == 110 then (Some 10, rest) else (Some (hex_value (get_or rest 0 0) * 16 + hex_value (get_or rest 1 0)), drop 2 rest)))

abbrev read_byte : List ℕ → Read
read_byte [] = (None, [])
read_byte (b ∷ rest) = if b == 34 then (None, rest) else (if b == 92 then unescaped rest else (Some b, rest))

-- quoted_byte with its four tests
abbrev quoted_by : Bool → Bool → Bool → Bool → ℕ → List ℕ
quoted_by quote backslash newline shown b = if quote then 92 ∷ 34 ∷ [] else (if backslash then 92 ∷ 92 ∷ [] else (if newline then 92 ∷ 110 ∷ [] else (if shown then b ∷ [] else hex_escape b)))

read-by : (quote backslash newline shown : Bool) (b : ℕ) (rest : List ℕ) → b < 256 → b == 34 ≡ quote → b == 92 ≡ backslash → b == 10 ≡ newline → read_byte (quoted_by quote backslash newline shown b ++ rest) ≡ (Some b, rest)
read-by true backslash newline shown b rest below q s n = ap (λ x. (Some x, rest)) (sym (eqb-true b 34 q))
read-by false true newline shown b rest below q s n = ap (λ x. (Some x, rest)) (sym (eqb-true b 92 s))
read-by false false true shown b rest below q s n = ap (λ x. (Some x, rest)) (sym (eqb-true b 10 n))
read-by false false false true b rest below q s n = rw (q, s) refl
read-by false false false false b rest below q s n = ap (λ x. (Some x, rest)) (hex_value-byte b below)

read_byte-quoted : (b : ℕ) (rest : List ℕ) → b < 256 → read_byte (quoted_byte b ++ rest) ≡ (Some b, rest)
read_byte-quoted b rest below = read-by (b == 34) (b == 92) (b == 10) (nat_le 32 b && nat_le b 126) b rest below refl refl refl

read-first : (b : ℕ) (bytes rest : List ℕ) → b < 256 → read_byte (quoted_bytes (b ∷ bytes) ++ rest) ≡ (Some b, quoted_bytes bytes ++ rest)
read-first b bytes rest below = ap read_byte (append_assoc (quoted_byte b) (quoted_bytes bytes) rest) ∙ read_byte-quoted b (quoted_bytes bytes ++ rest) below

abbrev no-byte : Option ℕ
no-byte = None

some-is : {m n : ℕ} → Some m ≡ Some n → m ≡ n
some-is e = cc

none-is-not : {n : ℕ} → no-byte ≡ Some n → ⊥
none-is-not e = cc

-- up to the closing quote
pub quoted_split : (xs ys rest others : List ℕ) → AllByRecursion IsByte xs → AllByRecursion IsByte ys → quoted_bytes xs ++ 34 ∷ rest ≡ quoted_bytes ys ++ 34 ∷ others → (xs ≡ ys) × (rest ≡ others)
quoted_split [] [] rest others px py e = (refl, cc)
quoted_split [] (y ∷ ys) rest others px py e =
    absurd (none-is-not (ap (λ r. r.0) (ap read_byte e ∙ read-first y ys (34 ∷ others) py.0)))
quoted_split (x ∷ xs) [] rest others px py e =
    absurd (none-is-not (ap (λ r. r.0) (ap read_byte (sym e) ∙ read-first x xs (34 ∷ rest) px.0)))
quoted_split (x ∷ xs) (y ∷ ys) rest others px py e =
    let read = sym (read-first x xs (34 ∷ rest) px.0) ∙ (ap read_byte e ∙ read-first y ys (34 ∷ others) py.0) in
    let split = quoted_split xs ys rest others px.1 py.1 (ap (λ r. r.1) read) in
    (ap₂ (λ b bytes. b ∷ bytes) (some-is (ap (λ r. r.0) read)) split.0, split.1)

-- any byte but the newline
abbrev pub in_line : ℕ → Bool
in_line b = if b == 10 then false else true

digit-in-line : (n : ℕ) → in_line (hex_digit n) ≡ true
digit-in-line n = grind (arith, nat_tests)

escape-in-line : (b : ℕ) → all_pass in_line (hex_escape b) ≡ true
escape-in-line b = rw (digit-in-line (b / 16), digit-in-line (b % 16)) refl

by-in-line : (quote backslash newline shown : Bool) (b : ℕ) → b == 10 ≡ newline → all_pass in_line (quoted_by quote backslash newline shown b) ≡ true
by-in-line true backslash newline shown b n = refl
by-in-line false true newline shown b n = refl
by-in-line false false true shown b n = refl
by-in-line false false false true b n = rw n refl
by-in-line false false false false b n = escape-in-line b

pub quoted-in-line : (bytes : List ℕ) → all_pass in_line (quoted_bytes bytes) ≡ true
quoted-in-line [] = refl
quoted-in-line (b ∷ bytes) = all_pass-append in_line (quoted_byte b) (quoted_bytes bytes) (by-in-line (b == 34) (b == 92) (b == 10) (nat_le 32 b && nat_le b 126) b refl) (quoted-in-line bytes)
