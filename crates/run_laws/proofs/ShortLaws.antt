-- The names of scripts within the limits are short.
use Rattle.std.proofs.Common.{ℕ, ◌<◌, List, [], ◌∷◌, length, arith}
use Rattle.std.specs.Prelude.{◌&&◌, nat_lt}
use Rattle.std.specs.List.{All, AllByRecursion, list_all}
use Rattle.std.proofs.lemmas.Bool.{and_parts, ltb-true}
use Rattle.std.proofs.lemmas.List.Elements.{All-from_recursion}
use Rattle.plain_cord.specs.declared.script.Session.{Session}
use Rattle.script_words.specs.Words.{is_letter, is_name_byte}
use Rattle.script_words.specs.Spelling.{IsName}
use Rattle.script_reader.specs.Limits.{IsSoundSession}
use Rattle.script_words.specs.Forms.{names_in}
use Rattle.report_text.specs.ShortNames.{IsShortName, HasShortNames}

name-short : (a : List ℕ) → IsName a → IsShortName a
name-short [] name = omega arith
name-short (c ∷ cs) name = let few : length cs < 16 = ltb-true (length cs) 16 (and_parts (is_letter c && list_all is_name_byte cs) (nat_lt (length cs) 16) name).1 in omega arith

names-short : (names : List (List ℕ)) → AllByRecursion IsName names → AllByRecursion IsShortName names
names-short [] sound = tt
names-short (a ∷ names) sound = (name-short a sound.0, names-short names sound.1)

pub sessions-short : (sessions : List Session) → All IsSoundSession sessions → All HasShortNames sessions
sessions-short sessions sound = λ k d inside.
    let session = sound k d inside in
    record { name = name-short _ session.name; commands = λ i c within. All-from_recursion IsShortName (names_in _) (names-short (names_in _) (session.commands i c within).names) }
