-- Names are words in one line, and those of a script differ.
use Rattle.std.proofs.Common.{◌≡◌, sym, ap, ℕ, zero, suc, ◌<◌, true, List, [], ◌∷◌, length, arith}
use Rattle.std.specs.List.{All, AllByRecursion, list_all}
use Rattle.std.proofs.lemmas.Bool.{and_parts}
use Rattle.std.proofs.lemmas.Bool.Decides.{nat_tests}
use Rattle.std.proofs.lemmas.List.Elements.{All-from_recursion}
use Rattle.plain_cord.specs.declared.script.Session.{Session}
use Rattle.script_words.specs.Words.{is_letter, is_name_byte}
use Rattle.script_words.specs.Spelling.{IsName}
use Rattle.script_reader.specs.ScriptSpelling.{NoneIsCalled}
use Rattle.script_reader.specs.ScriptSpelling.{NamesDiffer as AllDiffer}
use Rattle.report_text.specs.Histories.{name_at}
use Rattle.report_text.specs.Readable.{IsInLine, IsInWord, NamesDiffer}

-- neither a space nor a newline
abbrev IsPlainByte : ℕ → Type 0
IsPlainByte b = IsInLine b × IsInWord b

letter-plain : (b : ℕ) → is_letter b ≡ true → IsPlainByte b
letter-plain b h = (λ e. letter-in-line b h e, λ e. letter-in-word b h e)
  where
    letter-in-line : (b : ℕ) → is_letter b ≡ true → b ≡ 10 → ⊥
    letter-in-line b h e = grind (arith, nat_tests)

    letter-in-word : (b : ℕ) → is_letter b ≡ true → b ≡ 32 → ⊥
    letter-in-word b h e = grind (arith, nat_tests)

byte-plain : (b : ℕ) → is_name_byte b ≡ true → IsPlainByte b
byte-plain b h = (λ e. byte-in-line b h e, λ e. byte-in-word b h e)
  where
    byte-in-line : (b : ℕ) → is_name_byte b ≡ true → b ≡ 10 → ⊥
    byte-in-line b h e = grind (arith, nat_tests)

    byte-in-word : (b : ℕ) → is_name_byte b ≡ true → b ≡ 32 → ⊥
    byte-in-word b h e = grind (arith, nat_tests)

bytes-plain : (bs : List ℕ) → list_all is_name_byte bs ≡ true → AllByRecursion IsPlainByte bs
bytes-plain [] h = tt
bytes-plain (b ∷ bs) h = let parts = and_parts (is_name_byte b) (list_all is_name_byte bs) h in (byte-plain b parts.0, bytes-plain bs parts.1)

name-plain : (a : List ℕ) → IsName a → AllByRecursion IsPlainByte a
name-plain [] h = tt
name-plain (c ∷ cs) h =
    let parts = and_parts _ _ h in
    let front = and_parts _ _ parts.0 in
    (letter-plain c front.0, bytes-plain cs front.1)

pub name-in-line : (a : List ℕ) → IsName a → All IsInLine a
name-in-line a h = All-from_recursion IsInLine a (each a (name-plain a h))
  where
    each : (a : List ℕ) → AllByRecursion IsPlainByte a → AllByRecursion IsInLine a
    each [] h = tt
    each (b ∷ bs) h = (h.0.0, each bs h.1)

pub name-in-word : (a : List ℕ) → IsName a → All IsInWord a
name-in-word a h = All-from_recursion IsInWord a (each a (name-plain a h))
  where
    each : (a : List ℕ) → AllByRecursion IsPlainByte a → AllByRecursion IsInWord a
    each [] h = tt
    each (b ∷ bs) h = (h.0.1, each bs h.1)

none-called : (name : List ℕ) (sessions : List Session) → NoneIsCalled name sessions → (p : ℕ) → p < length sessions → name_at sessions p ≡ name → ⊥
none-called name [] h p below e = omega arith
none-called name (session ∷ sessions) h zero below e = h.0 e
none-called name (session ∷ sessions) h (suc p) below e = none-called name sessions h.1 p (omega arith) e

pub names-differ : (sessions : List Session) → AllDiffer sessions → NamesDiffer sessions
names-differ [] h p q below within e = absurd (omega arith)
names-differ (session ∷ sessions) h zero zero below within e = omega arith
names-differ (session ∷ sessions) h zero (suc q) below within e = absurd (none-called session.name sessions h.0 q (omega arith) (sym e))
names-differ (session ∷ sessions) h (suc p) zero below within e = absurd (none-called session.name sessions h.0 p (omega arith) e)
names-differ (session ∷ sessions) h (suc p) (suc q) below within e = ap suc (names-differ sessions h.1 p q (omega arith) (omega arith) e)
