-- A script that is spelled has no stride: no line that begins with that word is built.
use Rattle.std.proofs.Common.{◌≡◌, ℕ, Bool, true, false, cond, List, [], ◌∷◌, ◌++◌, map, Option, Some, None, refl, sym, subst, inl, inr}
use Rattle.std.specs.Prelude.{◌||◌, codes}
use Rattle.std.specs.List.{flat_map, list_any}
use Rattle.std.specs.Str.{bytes_eq}
use Rattle.plain_cord.specs.declared.script.Script.{Script}
use Rattle.script_words.specs.declared.verbs.CommandVerb.{CommandVerb}
use Rattle.script_words.specs.declared.verbs.FirstWord.TheVariants as firsts
use Rattle.script_words.specs.declared.verbs.Setting.{Setting}
use Rattle.script_words.specs.declared.verbs.Setting.TheVariants as settings
use Rattle.script_words.specs.declared.verbs.SettingVerb.TheVariants as setting_verbs
use Rattle.script_words.specs.declared.verbs.Verb.TheVariants as verbs
use Rattle.script_words.specs.Table.{command_word, first_of, setting_first, word_of_table}
use Rattle.script_reader.specs.declared.progress.Item.{Item}
use Rattle.script_reader.specs.declared.progress.Item.TheVariants as items
use Rattle.script_reader.specs.Spelling.{SpellsItem}
use Rattle.script_reader.specs.ScriptSpelling.{SpellsLines, numbers, stride_number, IsGiven, session_items, script_items, Spells}

-- of what a word may be: `t` tells whether it is `stride`, `u` whether it is another that isn't built, `o` is its command, and the others tell
-- whether it is `session`, `end`, `pool` or `passes`
shut : (t u : Bool) (o : Option CommandVerb) (s n p q : Bool)
    → cond (t || u) firsts.Unbuilt (first_of o (cond s (firsts.Built verbs.Session) (cond n (firsts.Built verbs.End) (setting_first
    (cond p (Some setting_verbs.Pool) (cond q (Some setting_verbs.Passes) (cond t (Some setting_verbs.Stride) None)))))))
    ≡ firsts.Built (verbs.Set setting_verbs.Stride)
    → ⊥
shut true u o s n p q e = absurd cc
shut false true o s n p q e = absurd cc
shut false false (Some v) s n p q e = absurd cc
shut false false None true n p q e = absurd cc
shut false false None false true p q e = absurd cc
shut false false None false false true q e = absurd cc
shut false false None false false false true e = absurd cc
shut false false None false false false false e = absurd cc

stride_shut : (word : List ℕ) → word_of_table word ≡ firsts.Built (verbs.Set setting_verbs.Stride) → ⊥
stride_shut word e =
    shut (bytes_eq word (codes "stride")) (list_any (bytes_eq word) (codes "snap" ∷ codes "walk" ∷ codes "unsnap" ∷ [])) (command_word word)
    (bytes_eq word (codes "session")) (bytes_eq word (codes "end")) (bytes_eq word (codes "pool")) (bytes_eq word (codes "passes")) e

abbrev IsFree : Item → Type 0
IsFree (items.Set (settings.Pool n)) = Unit {0}
IsFree (items.Set (settings.Passes n)) = Unit {0}
IsFree (items.Set (settings.Stride n)) = ⊥
IsFree (items.Begin name) = Unit {0}
IsFree (items.Do command) = Unit {0}
IsFree items.End = Unit {0}

abbrev AreFree : List Item → Type 0
AreFree [] = Unit {0}
AreFree (item ∷ more) = IsFree item × AreFree more

item_free : (line : List ℕ) (item : Item) → SpellsItem line item → IsFree item
item_free line (items.Set (settings.Pool n)) h = tt
item_free line (items.Set (settings.Passes n)) h = tt
item_free line (items.Set (settings.Stride n)) h = stride_shut h.word h.built
item_free line (items.Begin name) h = tt
item_free line (items.Do command) h = tt
item_free line items.End h = tt

lines_free : (lines : List (List ℕ)) (said : List Item) → SpellsLines lines said → AreFree said
lines_free [] said h = subst AreFree (sym h) tt
lines_free (l ∷ ls) said (inl h) = lines_free ls said h.1
lines_free (l ∷ ls) said (inr h) = subst AreFree (sym h.2) (item_free l h.0 h.3, lines_free ls h.1 h.4)

no_numbers : (ss : List Setting) (more : List Item) → AreFree (map items.Set ss ++ more) → numbers stride_number ss ≡ []
no_numbers [] more h = refl
no_numbers (settings.Pool n ∷ ss) more h = no_numbers ss more h.1
no_numbers (settings.Passes n ∷ ss) more h = no_numbers ss more h.1
no_numbers (settings.Stride n ∷ ss) more h = absurd h.0

default_given : (default : ℕ) (ns : List ℕ) (n : ℕ) → IsGiven default ns n → ns ≡ [] → n ≡ default
default_given default ns n (inl h) none = h.1
default_given default ns n (inr h) none = absurd cc

pub spelled_free : (bytes : List ℕ) (s : Script) → Spells bytes s → s.stride ≡ 0
spelled_free bytes s h =
    default_given 0 (numbers stride_number h.options) s.stride h.given.stride
    (no_numbers h.options (flat_map session_items s.sessions) (lines_free h.lines (script_items h.options s.sessions) h.spelled))
