-- What is spelled has texts of bytes.
use Rattle.std.proofs.Common.{◌≡◌, sym, subst, ℕ, ◌-◌, ◌<◌, ◌⊎◌, true, List, [], ◌∷◌, ◌++◌, map, Option, Some, None, arith, inl, inr}
use Rattle.std.specs.Prelude.{◌&&◌, nat_le, if◌then◌else◌, unwrap_or, IfSome}
use Rattle.std.specs.List.{All, flat_map}
use Rattle.std.proofs.lemmas.Bool.{cond_both}
use Rattle.std.proofs.lemmas.Bool.Decides.{nat_tests}
use Rattle.std.proofs.lemmas.List.Concat.{flat_map-cons}
use Rattle.std.proofs.lemmas.List.Elements.{All-nil, All-cons}
use Rattle.plain_cord.specs.declared.script.Command.{Command}
use Rattle.script_words.specs.Table.{Form, OfName, OfNameText, OfNameNumber, OfNameCell, OfCellName, OfTwoNames, OfBare, OfSub, form_of}
use Rattle.script_words.specs.Forms.{form_text}
use Rattle.plain_cord.specs.declared.script.Session.{Session}
use Rattle.plain_cord.specs.declared.script.Script.{Script}
use Rattle.script_words.specs.Words.{is_digit, is_shown}
use Rattle.script_words.specs.Spelling.{hex_digit_of, SpellsByte, SpellsBytes}
use Rattle.script_reader.specs.declared.progress.Item.{Item}
use Rattle.script_reader.specs.declared.progress.Item.TheVariants as items
use Rattle.script_reader.specs.Spelling.{SaysForm, Says}
use Rattle.script_reader.specs.ScriptSpelling.{SpellsLines, session_items, script_items, Spells}
use Rattle.report_text.specs.Readable.{IsByte}
use Rattle.run_laws.specs.ByteTexts.{HasByteText, HaveByteTexts}

digit-below : (c : ℕ) → is_digit c ≡ true → c - 48 < 16
digit-below c h = grind (arith, nat_tests)

letter-below : (c : ℕ) → (nat_le 97 c && nat_le c 102) ≡ true → c - 87 < 16
letter-below c h = grind (arith, nat_tests)

hex-below : (c : ℕ) → hex_digit_of c < 16
hex-below c = cond_both (is_digit c) (Some (c - 48)) (if nat_le 97 c && nat_le c 102 then Some (c - 87) else None) (λ o. unwrap_or o 0 < 16) (λ yes. digit-below c yes)
    (λ no. cond_both (nat_le 97 c && nat_le c 102) (Some (c - 87)) None (λ o. unwrap_or o 0 < 16) (λ yes. letter-below c yes) (λ other. omega arith))

shown-below : (b : ℕ) → is_shown b ≡ true → b < 256
shown-below b h = grind (arith, nat_tests)

byte-below : (p : List ℕ) (b : ℕ) → SpellsByte p b → IsByte b
byte-below p b (inl h) = shown-below b h.1
byte-below p b (inr (inl h)) = either h.1
  where
    either : (b ≡ 34) ⊎ (b ≡ 92) → b < 256
    either (inl e) = omega arith
    either (inr e) = omega arith
byte-below p b (inr (inr (inl h))) = omega (arith, h.1)
byte-below p b (inr (inr (inr h))) = omega (arith, h.5, hex-below h.0, hex-below h.1)

bytes-below : (inner bytes : List ℕ) → SpellsBytes inner bytes → All IsByte bytes
bytes-below inner [] h = All-nil IsByte
bytes-below inner (b ∷ bytes) h = All-cons IsByte b bytes (byte-below h.0 b h.3) (bytes-below h.1 bytes h.4)

form-bytes : (form : Form) (rest : Option (List ℕ)) → SaysForm rest form → IfSome (form_text form) (λ text. All IsByte text.piece)
form-bytes (OfNameText verb a text) rest h = bytes-below h.3.inner text.piece h.3.bytes
form-bytes (OfName verb a) rest h = tt
form-bytes (OfNameNumber verb a n) rest h = tt
form-bytes (OfNameCell verb a cell) rest h = tt
form-bytes (OfCellName verb cell a) rest h = tt
form-bytes (OfTwoNames verb a b) rest h = tt
form-bytes (OfBare verb) rest h = tt
form-bytes (OfSub a pos n b) rest h = tt

abbrev IsByteItem : Item → Type 0
IsByteItem (items.Do command) = HasByteText command
IsByteItem _ = Unit {0}

abbrev AreByteItems : List Item → Type 0
AreByteItems [] = Unit {0}
AreByteItems (item ∷ more) = IsByteItem item × AreByteItems more

item-bytes : (item : Item) (rest : Option (List ℕ)) → Says rest item → IsByteItem item
item-bytes (items.Do command) rest h = form-bytes (form_of command) rest h
item-bytes (items.Set setting) rest h = tt
item-bytes (items.Begin name) rest h = tt
item-bytes items.End rest h = tt

lines-bytes : (lines : List (List ℕ)) (said : List Item) → SpellsLines lines said → AreByteItems said
lines-bytes [] said h = subst AreByteItems (sym h) tt
lines-bytes (l ∷ ls) said (inl h) = lines-bytes ls said h.1
lines-bytes (l ∷ ls) said (inr h) = subst AreByteItems (sym h.2) (item-bytes h.0 h.3.rest h.3.says, lines-bytes ls h.1 h.4)

item-parts : (xs ys : List Item) → AreByteItems (xs ++ ys) → AreByteItems xs × AreByteItems ys
item-parts [] ys h = (tt, h)
item-parts (x ∷ xs) ys h = let parts = item-parts xs ys h.1 in ((h.0, parts.0), parts.1)

said-bytes : (said : List Command) → AreByteItems (map items.Do said) → All HasByteText said
said-bytes [] h = All-nil HasByteText
said-bytes (command ∷ said) h = All-cons HasByteText command said h.0 (said-bytes said h.1)

sessions-bytes : (sessions : List Session) → AreByteItems (flat_map session_items sessions) → HaveByteTexts sessions
sessions-bytes [] h = All-nil (λ (session : Session). All HasByteText session.commands)
sessions-bytes (session ∷ sessions) h =
    let parts = item-parts (session_items session) (flat_map session_items sessions) (subst AreByteItems (flat_map-cons session_items session sessions) h) in
    let own = item-parts (map items.Do session.commands) (items.End ∷ []) parts.0.1 in
    All-cons (λ (s : Session). All HasByteText s.commands) session sessions (said-bytes session.commands own.0) (sessions-bytes sessions parts.1)

pub spelled-bytes : (bytes : List ℕ) (script : Script) → Spells bytes script → HaveByteTexts script.sessions
spelled-bytes bytes script h = sessions-bytes script.sessions (item-parts (map items.Set h.options) (flat_map session_items script.sessions) (lines-bytes h.lines (script_items h.options script.sessions) h.spelled)).1
