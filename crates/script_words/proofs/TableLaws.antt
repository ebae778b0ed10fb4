-- The table is one: forms and commands are the same, and its words are words of letters.
use Rattle.std.proofs.Common.{◌≡◌, ℕ, Bool, true, false, cond, List, [], ◌∷◌, Option, Some, None, refl, ap, ◌∙◌}
use Rattle.std.specs.Prelude.{◌&&◌, codes, if◌then◌else◌}
use Rattle.std.specs.List.{list_all, list_any}
use Rattle.std.specs.Option.{option_map}
use Rattle.std.specs.Str.{bytes_eq}
use Rattle.std.proofs.lemmas.Bool.{and_parts}
use Rattle.std.proofs.lemmas.Slice.Eq.{bytes_eq-Decides}
use Rattle.plain_cord.specs.declared.script.Command.{Command}
use Rattle.plain_cord.specs.declared.script.Command.TheVariants as commands
use Rattle.script_words.specs.declared.verbs.CommandVerb.{CommandVerb}
use Rattle.script_words.specs.declared.verbs.CommandVerb.TheVariants as kinds
use Rattle.script_words.specs.declared.verbs.SettingVerb.{SettingVerb}
use Rattle.script_words.specs.declared.verbs.Verb.{Verb}
use Rattle.script_words.specs.declared.verbs.Verb.TheVariants as verbs
use Rattle.script_words.specs.declared.verbs.NameVerb.TheVariants as name_verbs
use Rattle.script_words.specs.declared.verbs.NameTextVerb.TheVariants as name_text_verbs
use Rattle.script_words.specs.declared.verbs.NameNumberVerb.TheVariants as name_number_verbs
use Rattle.script_words.specs.declared.verbs.NameCellVerb.TheVariants as name_cell_verbs
use Rattle.script_words.specs.declared.verbs.CellNameVerb.TheVariants as cell_name_verbs
use Rattle.script_words.specs.declared.verbs.TwoNamesVerb.TheVariants as two_names_verbs
use Rattle.script_words.specs.declared.verbs.BareVerb.TheVariants as bare_verbs
use Rattle.script_words.specs.declared.verbs.FirstWord.TheVariants as firsts
use Rattle.script_words.specs.Words.{is_letter, is_name_byte}
use Rattle.script_words.specs.Table.{Words, found_in, name_words, name_text_words, name_number_words, name_cell_words, cell_name_words, two_names_words, bare_words, setting_words, setting_first, or_else, command_word, unbuilt_words, other_word, first_of, word_of_table, Form, OfName, OfNameText, OfNameNumber, OfNameCell, OfCellName, OfTwoNames, OfBare, OfSub, command_of, form_of}

pub command_of_form : (command : Command) → command_of (form_of command) ≡ command
command_of_form (commands.Clear a) = refl
command_of_form (commands.Sum a) = refl
command_of_form (commands.Size a) = refl
command_of_form (commands.Print a) = refl
command_of_form (commands.Let a text) = refl
command_of_form (commands.Ext a text) = refl
command_of_form (commands.Append a text) = refl
command_of_form (commands.Prepend a text) = refl
command_of_form (commands.Find a text) = refl
command_of_form (commands.Starts a text) = refl
command_of_form (commands.Ends a text) = refl
command_of_form (commands.CutFront a n) = refl
command_of_form (commands.CutBack a n) = refl
command_of_form (commands.At a n) = refl
command_of_form (commands.SetSum a n) = refl
command_of_form (commands.Put a cell) = refl
command_of_form (commands.Swap a cell) = refl
command_of_form (commands.Take cell a) = refl
command_of_form (commands.Peek cell a) = refl
command_of_form (commands.Copy a b) = refl
command_of_form (commands.Join a b) = refl
command_of_form (commands.JoinFront a b) = refl
command_of_form (commands.Compare a b) = refl
command_of_form commands.Snap = refl
command_of_form commands.Walk = refl
command_of_form commands.Unsnap = refl
command_of_form (commands.Sub a pos n b) = refl

pub form_of_command : (form : Form) → form_of (command_of form) ≡ form
form_of_command (OfName name_verbs.Clear a) = refl
form_of_command (OfName name_verbs.Sum a) = refl
form_of_command (OfName name_verbs.Size a) = refl
form_of_command (OfName name_verbs.Print a) = refl
form_of_command (OfNameText name_text_verbs.Let a text) = refl
form_of_command (OfNameText name_text_verbs.Ext a text) = refl
form_of_command (OfNameText name_text_verbs.Append a text) = refl
form_of_command (OfNameText name_text_verbs.Prepend a text) = refl
form_of_command (OfNameText name_text_verbs.Find a text) = refl
form_of_command (OfNameText name_text_verbs.Starts a text) = refl
form_of_command (OfNameText name_text_verbs.Ends a text) = refl
form_of_command (OfNameNumber name_number_verbs.CutFront a n) = refl
form_of_command (OfNameNumber name_number_verbs.CutBack a n) = refl
form_of_command (OfNameNumber name_number_verbs.At a n) = refl
form_of_command (OfNameNumber name_number_verbs.SetSum a n) = refl
form_of_command (OfNameCell name_cell_verbs.Put a cell) = refl
form_of_command (OfNameCell name_cell_verbs.Swap a cell) = refl
form_of_command (OfCellName cell_name_verbs.Take cell a) = refl
form_of_command (OfCellName cell_name_verbs.Peek cell a) = refl
form_of_command (OfTwoNames two_names_verbs.Copy a b) = refl
form_of_command (OfTwoNames two_names_verbs.Join a b) = refl
form_of_command (OfTwoNames two_names_verbs.JoinFront a b) = refl
form_of_command (OfTwoNames two_names_verbs.Compare a b) = refl
form_of_command (OfBare bare_verbs.Snap) = refl
form_of_command (OfBare bare_verbs.Walk) = refl
form_of_command (OfBare bare_verbs.Unsnap) = refl
form_of_command (OfSub a pos n b) = refl

-- ---- the words

-- letters, at least one
abbrev pub is_word : List ℕ → Bool
is_word [] = false
is_word (c ∷ cs) = is_letter c && list_all is_name_byte (c ∷ cs)

abbrev are_words : {V : Type 0} → Words V → Bool
are_words entries = list_all (λ entry. is_word entry.0) entries

-- a word that is equal to one of these
word_same : (word other : List ℕ) → bytes_eq word other ≡ true → is_word other ≡ true → is_word word ≡ true
word_same word other same is = ap is_word ((bytes_eq-Decides word other).0 same) ∙ is

words_found : {V : Type 0} (entries : Words V) (word : List ℕ) (verb : V) → are_words entries ≡ true → found_in entries word ≡ Some verb → is_word word ≡ true
words_found [] word verb all found = absurd cc
words_found {V} (entry ∷ more) word verb all found =
    let parts = and_parts (is_word entry.0) (list_all (λ (e : List ℕ × V). is_word e.0) more) all in
    by_test (words_found more word verb parts.1) parts.0 (bytes_eq word entry.0) refl found
  where
    by_test : (found_in more word ≡ Some verb → is_word word ≡ true) → is_word entry.0 ≡ true → (t : Bool) → bytes_eq word entry.0 ≡ t → cond t (Some entry.1) (found_in more word) ≡ Some verb → is_word word ≡ true
    by_test on own true is f = word_same word entry.0 is own
    by_test on own false is f = on f

-- one of some kind was found, or it is another
either_found : {V : Type 0} (f : V → CommandVerb) (o : Option V) (other : Option CommandVerb) (verb : CommandVerb) (P : Type 0) → ((v : V) → o ≡ Some v → P) → (other ≡ Some verb → P) → or_else (option_map f o) other ≡ Some verb → P
either_found f None other verb P found on e = on e
either_found f (Some v) other verb P found on e = found v refl

sub_found : (word : List ℕ) (verb : CommandVerb) → (if bytes_eq word (codes "sub") then Some kinds.Sub else None) ≡ Some verb → is_word word ≡ true
sub_found word verb e = by_test (bytes_eq word (codes "sub")) refl e
  where
    by_test : (t : Bool) → bytes_eq word (codes "sub") ≡ t → cond t (Some kinds.Sub) None ≡ Some verb → is_word word ≡ true
    by_test true is f = word_same word (codes "sub") is refl
    by_test false is f = absurd cc

command_words : (word : List ℕ) (verb : CommandVerb) → command_word word ≡ Some verb → is_word word ≡ true
command_words word verb e =
    let P = is_word word ≡ true in
    either_found kinds.NameText (found_in name_text_words word) _ verb P (λ v f. words_found name_text_words word v refl f)
    (either_found kinds.NameNumber (found_in name_number_words word) _ verb P (λ v f. words_found name_number_words word v refl f)
    (either_found kinds.TwoNames (found_in two_names_words word) _ verb P (λ v f. words_found two_names_words word v refl f)
    (either_found kinds.Name (found_in name_words word) _ verb P (λ v f. words_found name_words word v refl f)
    (either_found kinds.NameCell (found_in name_cell_words word) _ verb P (λ v f. words_found name_cell_words word v refl f)
    (either_found kinds.CellName (found_in cell_name_words word) _ verb P (λ v f. words_found cell_name_words word v refl f)
    (either_found kinds.Bare (found_in bare_words word) _ verb P (λ v f. words_found bare_words word v refl f)
    (sub_found word verb))))))) e

settings_found : (word : List ℕ) (verb : Verb) → setting_first (found_in setting_words word) ≡ firsts.Built verb → is_word word ≡ true
settings_found word verb e = by_found (found_in setting_words word) refl e
  where
    by_found : (o : Option SettingVerb) → found_in setting_words word ≡ o → setting_first o ≡ firsts.Built verb → is_word word ≡ true
    by_found None is f = absurd cc
    by_found (Some v) is f = words_found setting_words word v refl is

other_words : (word : List ℕ) (verb : Verb) → other_word word ≡ firsts.Built verb → is_word word ≡ true
other_words word verb e = by_session (bytes_eq word (codes "session")) refl e
  where
    by_end : (t : Bool) → bytes_eq word (codes "end") ≡ t → cond t (firsts.Built verbs.End) (setting_first (found_in setting_words word)) ≡ firsts.Built verb → is_word word ≡ true
    by_end true is f = word_same word (codes "end") is refl
    by_end false is f = settings_found word verb f

    by_session : (t : Bool) → bytes_eq word (codes "session") ≡ t
        → cond t (firsts.Built verbs.Session) (cond (bytes_eq word (codes "end")) (firsts.Built verbs.End) (setting_first (found_in setting_words word))) ≡ firsts.Built verb → is_word word ≡ true
    by_session true is f = word_same word (codes "session") is refl
    by_session false is f = by_end (bytes_eq word (codes "end")) refl f

table_words : (word : List ℕ) (verb : Verb) → first_of (command_word word) (other_word word) ≡ firsts.Built verb → is_word word ≡ true
table_words word verb e = by_command (command_word word) refl e
  where
    by_command : (o : Option CommandVerb) → command_word word ≡ o → first_of o (other_word word) ≡ firsts.Built verb → is_word word ≡ true
    by_command None is f = other_words word verb f
    by_command (Some v) is f = command_words word v is

pub built_word : (word : List ℕ) (verb : Verb) → word_of_table word ≡ firsts.Built verb → is_word word ≡ true
built_word word verb e = by_unbuilt (list_any (bytes_eq word) unbuilt_words) e
  where
    by_unbuilt : (t : Bool) → cond t firsts.Unbuilt (first_of (command_word word) (other_word word)) ≡ firsts.Built verb → is_word word ≡ true
    by_unbuilt true f = absurd cc
    by_unbuilt false f = table_words word verb f
