-- What is spelled is within the limits.
use Rattle.std.proofs.Common.{◌≡◌, ℕ, ◌≤◌, List, [], ◌∷◌, ◌++◌, map, Option, Result, Ok, Err, sym, subst, arith, inl, inr}
use Rattle.std.specs.Prelude.{IfOk}
use Rattle.std.specs.List.{All, AllByRecursion, flat_map}
use Rattle.std.proofs.lemmas.List.Concat.{flat_map-cons}
use Rattle.std.proofs.lemmas.List.Elements.{All-nil, All-cons}
use Rattle.script_words.specs.Spelling.{IsName}
use Rattle.plain_cord.specs.declared.script.Command.{Command}
use Rattle.script_words.specs.Table.{Form, OfName, OfNameText, OfNameNumber, OfNameCell, OfCellName, OfTwoNames, OfBare, OfSub, form_of, verb_in, word_of_table}
use Rattle.script_words.specs.Forms.{form_names, IsFormWithin}
use Rattle.plain_cord.specs.declared.script.Session.{Session}
use Rattle.plain_cord.specs.declared.script.Script.{Script}
use Rattle.script_words.specs.declared.verbs.FirstWord.TheVariants as firsts
use Rattle.script_words.specs.declared.verbs.Setting.{Setting}
use Rattle.script_words.specs.declared.verbs.Setting.TheVariants as settings
use Rattle.script_words.specs.declared.verbs.Verb.TheVariants as verbs
use Rattle.script_reader.specs.declared.progress.Item.{Item}
use Rattle.script_reader.specs.declared.progress.Item.TheVariants as items
use Rattle.script_reader.specs.declared.fault.ReadRefused.{ReadRefused}
use Rattle.script_reader.specs.Spelling.{SaysSetting, SaysForm, SpellsItem}
use Rattle.script_reader.specs.ScriptSpelling.{SpellsLines, numbers, pool_number, passes_number, stride_number, IsGiven, session_items, script_items, Spells}
use Rattle.script_reader.specs.Limits.{IsSoundCommand, IsSoundSession, IsWithinLimits}
use Rattle.script_reader.proofs.BareLaws.{bare_shut}

abbrev IsSoundSetting : Setting → Type 0
IsSoundSetting (settings.Pool n) = (1 ≤ n) × (n ≤ 262144)
IsSoundSetting (settings.Passes n) = (1 ≤ n) × (n ≤ 262144)
IsSoundSetting (settings.Stride n) = n ≤ 1000000

abbrev IsSound : Item → Type 0
IsSound (items.Set setting) = IsSoundSetting setting
IsSound (items.Begin name) = IsName name
IsSound (items.Do command) = IsSoundCommand command
IsSound items.End = Unit {0}

abbrev AreSound : List Item → Type 0
AreSound [] = Unit {0}
AreSound (item ∷ more) = IsSound item × AreSound more

form_sound : (form : Form) (word : List ℕ) (rest : Option (List ℕ)) → word_of_table word ≡ firsts.Built (verbs.Do (verb_in form)) → SaysForm rest form → AllByRecursion IsName (form_names form) × IsFormWithin form
form_sound (OfName v a) word rest built h = ((h.1, tt), tt)
form_sound (OfNameText v a text) word rest built h = ((h.2, tt), (h.3.long, h.3.fits))
form_sound (OfNameNumber v a n) word rest built h = ((h.2, tt), h.5)
form_sound (OfNameCell v a cell) word rest built h = ((h.2, tt), omega (arith, h.5))
form_sound (OfCellName v cell a) word rest built h = ((h.2, tt), omega (arith, h.5))
form_sound (OfTwoNames v a b) word rest built h = ((h.1, (h.2, tt)), tt)
form_sound (OfBare v) word rest built h = absurd (bare_shut word v built)
form_sound (OfSub a pos n b) word rest built h = ((h.3, (h.4, tt)), (h.5.small, h.6.small))

setting_sound : (setting : Setting) (rest : Option (List ℕ)) → SaysSetting rest setting → IsSoundSetting setting
setting_sound (settings.Pool n) rest h = (h.3, h.4)
setting_sound (settings.Passes n) rest h = (h.3, h.4)
setting_sound (settings.Stride n) rest h = h.4

item_sound : (line : List ℕ) (item : Item) → SpellsItem line item → IsSound item
item_sound line (items.Set setting) h = setting_sound setting h.rest h.says
item_sound line (items.Begin name) h = h.says.1
item_sound line (items.Do command) h = let sound = form_sound (form_of command) h.word h.rest h.built h.says in record { names = sound.0; within = sound.1 }
item_sound line items.End h = tt

lines_sound : (lines : List (List ℕ)) (said : List Item) → SpellsLines lines said → AreSound said
lines_sound [] said h = subst AreSound (sym h) tt
lines_sound (l ∷ ls) said (inl h) = lines_sound ls said h.1
lines_sound (l ∷ ls) said (inr h) = subst AreSound (sym h.2) (item_sound l h.0 h.3, lines_sound ls h.1 h.4)

sound_parts : (xs ys : List Item) → AreSound (xs ++ ys) → AreSound xs × AreSound ys
sound_parts [] ys h = (tt, h)
sound_parts (x ∷ xs) ys h = let a = sound_parts xs ys h.1 in ((h.0, a.0), a.1)

-- ---- options

pool_sound : (ss : List Setting) (n : ℕ) → AreSound (map items.Set ss) → numbers pool_number ss ≡ n ∷ [] → (1 ≤ n) × (n ≤ 262144)
pool_sound [] n h e = absurd cc
pool_sound (settings.Pool m ∷ ss) n h e = let same : m ≡ n = cc in subst (λ (k : ℕ). (1 ≤ k) × (k ≤ 262144)) same h.0
pool_sound (settings.Passes m ∷ ss) n h e = pool_sound ss n h.1 e
pool_sound (settings.Stride m ∷ ss) n h e = pool_sound ss n h.1 e

passes_sound : (ss : List Setting) (n : ℕ) → AreSound (map items.Set ss) → numbers passes_number ss ≡ n ∷ [] → (1 ≤ n) × (n ≤ 262144)
passes_sound [] n h e = absurd cc
passes_sound (settings.Pool m ∷ ss) n h e = passes_sound ss n h.1 e
passes_sound (settings.Passes m ∷ ss) n h e = let same : m ≡ n = cc in subst (λ (k : ℕ). (1 ≤ k) × (k ≤ 262144)) same h.0
passes_sound (settings.Stride m ∷ ss) n h e = passes_sound ss n h.1 e

stride_sound : (ss : List Setting) (n : ℕ) → AreSound (map items.Set ss) → numbers stride_number ss ≡ n ∷ [] → n ≤ 1000000
stride_sound [] n h e = absurd cc
stride_sound (settings.Pool m ∷ ss) n h e = stride_sound ss n h.1 e
stride_sound (settings.Passes m ∷ ss) n h e = stride_sound ss n h.1 e
stride_sound (settings.Stride m ∷ ss) n h e = let same : m ≡ n = cc in subst (λ (k : ℕ). k ≤ 1000000) same h.0

given_pool : (ss : List Setting) (n : ℕ) → AreSound (map items.Set ss) → IsGiven 65536 (numbers pool_number ss) n → (1 ≤ n) × (n ≤ 262144)
given_pool ss n h (inl k) = (omega (arith, k.1), omega (arith, k.1))
given_pool ss n h (inr k) = pool_sound ss n h k

given_passes : (ss : List Setting) (n : ℕ) → AreSound (map items.Set ss) → IsGiven 16384 (numbers passes_number ss) n → (1 ≤ n) × (n ≤ 262144)
given_passes ss n h (inl k) = (omega (arith, k.1), omega (arith, k.1))
given_passes ss n h (inr k) = passes_sound ss n h k

given_stride : (ss : List Setting) (n : ℕ) → AreSound (map items.Set ss) → IsGiven 0 (numbers stride_number ss) n → n ≤ 1000000
given_stride ss n h (inl k) = omega (arith, k.1)
given_stride ss n h (inr k) = stride_sound ss n h k

-- ---- sessions

commands_sound : (cs : List Command) → AreSound (map items.Do cs) → All IsSoundCommand cs
commands_sound [] h = All-nil IsSoundCommand
commands_sound (c ∷ cs) h = All-cons IsSoundCommand c cs h.0 (commands_sound cs h.1)

session_sound : (s : Session) → AreSound (session_items s) → IsSoundSession s
session_sound s h =
    let c = sound_parts (map items.Do s.commands) (items.End ∷ []) h.1 in
    record { name = h.0; commands = commands_sound s.commands c.0 }

sessions_sound : (ss : List Session) → AreSound (flat_map session_items ss) → All IsSoundSession ss
sessions_sound [] h = All-nil IsSoundSession
sessions_sound (s ∷ ss) h =
    let a = sound_parts (session_items s) (flat_map session_items ss) (subst AreSound (flat_map-cons session_items s ss) h) in
    All-cons IsSoundSession s ss (session_sound s a.0) (sessions_sound ss a.1)

-- ---- the whole

pub spelled_within : (bytes : List ℕ) (s : Script) → Spells bytes s → IsWithinLimits s
spelled_within bytes s h =
    let a = sound_parts (map items.Set h.options) (flat_map session_items s.sessions) (lines_sound h.lines (script_items h.options s.sessions) h.spelled) in
    let pool = given_pool h.options s.pool a.0 h.given.pool in
    let passes = given_passes h.options s.passes a.0 h.given.passes in
    record {
      some_pool = pool.0;
      pool = pool.1;
      some_passes = passes.0;
      passes = passes.1;
      stride = given_stride h.options s.stride a.0 h.given.stride;
      sessions = sessions_sound s.sessions a.1;
      differ = h.differ;
      few = h.few;
      short = h.short;
    }

pub is_within : (bytes : List ℕ) (r : Result Script ReadRefused) → IfOk r (λ s. Spells bytes s) → IfOk r IsWithinLimits
is_within bytes (Ok s) h = spelled_within bytes s h
is_within bytes (Err e) h = tt
