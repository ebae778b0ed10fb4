-- No word with nothing behind it begins a line of a script that is read: each of them isn't built yet.
use Rattle.std.proofs.Common.{◌≡◌, ℕ, Bool, true, false, cond, List, Option, Some, None}
use Rattle.std.specs.Prelude.{◌||◌, codes}
use Rattle.std.specs.Option.{option_map}
use Rattle.std.specs.Str.{bytes_eq}
use Rattle.script_words.specs.declared.verbs.BareVerb.{BareVerb}
use Rattle.script_words.specs.declared.verbs.BareVerb.TheVariants as bare_verbs
use Rattle.script_words.specs.declared.verbs.CellNameVerb.{CellNameVerb}
use Rattle.script_words.specs.declared.verbs.CommandVerb.{CommandVerb}
use Rattle.script_words.specs.declared.verbs.CommandVerb.TheVariants as kinds
use Rattle.script_words.specs.declared.verbs.FirstWord.{FirstWord}
use Rattle.script_words.specs.declared.verbs.FirstWord.TheVariants as firsts
use Rattle.script_words.specs.declared.verbs.NameCellVerb.{NameCellVerb}
use Rattle.script_words.specs.declared.verbs.NameNumberVerb.{NameNumberVerb}
use Rattle.script_words.specs.declared.verbs.NameTextVerb.{NameTextVerb}
use Rattle.script_words.specs.declared.verbs.NameVerb.{NameVerb}
use Rattle.script_words.specs.declared.verbs.SettingVerb.{SettingVerb}
use Rattle.script_words.specs.declared.verbs.TwoNamesVerb.{TwoNamesVerb}
use Rattle.script_words.specs.declared.verbs.Verb.TheVariants as verbs
use Rattle.script_words.specs.Table.{found_in, name_words, name_text_words, name_number_words, name_cell_words, cell_name_words, two_names_words, setting_words, setting_first, or_else, first_of, word_of_table}

-- what begins neither with such a word nor a command
other_shut : (x y : Bool) (o : Option SettingVerb) (v : BareVerb) → cond x (firsts.Built verbs.Session) (cond y (firsts.Built verbs.End) (setting_first o)) ≡ firsts.Built (verbs.Do (kinds.Bare v)) → ⊥
other_shut true y o v e = absurd cc
other_shut false true o v e = absurd cc
other_shut false false None v e = absurd cc
other_shut false false (Some w) v e = absurd cc

-- of what a word may be: `t` tells whether it is `stride`, `s`, `w` and `u` whether it is one with nothing behind it, the others what else it is
shut : (t s w u : Bool) (o1 : Option NameTextVerb) (o2 : Option NameNumberVerb) (o3 : Option TwoNamesVerb) (o4 : Option NameVerb) (o5 : Option NameCellVerb) (o6 : Option CellNameVerb) (b x y : Bool) (o : Option SettingVerb)
    (v : BareVerb)
    → cond (t || (s || (w || (u || false)))) firsts.Unbuilt (first_of
    (or_else (option_map kinds.NameText o1) (or_else (option_map kinds.NameNumber o2) (or_else (option_map kinds.TwoNames o3)
    (or_else (option_map kinds.Name o4) (or_else (option_map kinds.NameCell o5) (or_else (option_map kinds.CellName o6)
    (or_else (option_map kinds.Bare (cond s (Some bare_verbs.Snap) (cond w (Some bare_verbs.Walk) (cond u (Some bare_verbs.Unsnap) None))))
    (cond b (Some kinds.Sub) None))))))))
    (cond x (firsts.Built verbs.Session) (cond y (firsts.Built verbs.End) (setting_first o))))
    ≡ firsts.Built (verbs.Do (kinds.Bare v))
    → ⊥
shut true s w u o1 o2 o3 o4 o5 o6 b x y o v e = absurd cc
shut false true w u o1 o2 o3 o4 o5 o6 b x y o v e = absurd cc
shut false false true u o1 o2 o3 o4 o5 o6 b x y o v e = absurd cc
shut false false false true o1 o2 o3 o4 o5 o6 b x y o v e = absurd cc
shut false false false false (Some k) o2 o3 o4 o5 o6 b x y o v e = absurd cc
shut false false false false None (Some k) o3 o4 o5 o6 b x y o v e = absurd cc
shut false false false false None None (Some k) o4 o5 o6 b x y o v e = absurd cc
shut false false false false None None None (Some k) o5 o6 b x y o v e = absurd cc
shut false false false false None None None None (Some k) o6 b x y o v e = absurd cc
shut false false false false None None None None None (Some k) b x y o v e = absurd cc
shut false false false false None None None None None None true x y o v e = absurd cc
shut false false false false None None None None None None false x y o v e = other_shut x y o v e

pub bare_shut : (word : List ℕ) (v : BareVerb) → word_of_table word ≡ firsts.Built (verbs.Do (kinds.Bare v)) → ⊥
bare_shut word v e =
    shut (bytes_eq word (codes "stride")) (bytes_eq word (codes "snap")) (bytes_eq word (codes "walk")) (bytes_eq word (codes "unsnap")) (found_in name_text_words word) (found_in name_number_words word)
    (found_in two_names_words word) (found_in name_words word) (found_in name_cell_words word) (found_in cell_name_words word) (bytes_eq word (codes "sub"))
    (bytes_eq word (codes "session")) (bytes_eq word (codes "end")) (found_in setting_words word) v e
