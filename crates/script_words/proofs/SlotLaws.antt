-- A word is none of the first words, or the one that has its slot.
use Rattle.std.proofs.Common.{◌≡◌, ℕ, Bool, true, false, cond, eqb, List, [], ◌∷◌, ◌++◌, map, Option, Some, None, refl, sym, ap, ◌∙◌}
use Rattle.std.specs.Prelude.{◌&&◌, ◌||◌, not, codes}
use Rattle.std.specs.List.{list_all, list_any}
use Rattle.std.specs.Option.{option_map}
use Rattle.std.specs.Str.{bytes_eq}
use Rattle.std.proofs.lemmas.Bool.{and_parts, false_from_ne_true, eqb-true, eqb-false, eq-eqb}
use Rattle.std.proofs.lemmas.Slice.Eq.{bytes_eq-Decides}
use Rattle.script_words.specs.declared.verbs.CommandVerb.{CommandVerb}
use Rattle.script_words.specs.declared.verbs.CommandVerb.TheVariants as kinds
use Rattle.script_words.specs.declared.verbs.Verb.TheVariants as verbs
use Rattle.script_words.specs.declared.verbs.SettingVerb.{SettingVerb}
use Rattle.script_words.specs.declared.verbs.FirstWord.{FirstWord}
use Rattle.script_words.specs.declared.verbs.FirstWord.TheVariants as firsts
use Rattle.script_words.specs.Table.{Words, found_in, or_else, first_of, setting_first, command_word, other_word, word_of_table, unbuilt_words, setting_words}
use Rattle.script_words.specs.Table.{name_words, name_text_words, name_number_words, name_cell_words, cell_name_words, two_names_words, bare_words}
use Rattle.script_words.specs.Slots.{slot_of, do_first, firsts_by, built_words, first_words, with_slot, entry_at}

-- ---- words with a slot of their own

-- what the word is, where it is one of these
abbrev sought : List ℕ → Words FirstWord → FirstWord → FirstWord
sought word [] other = other
sought word (entry ∷ more) other = cond (bytes_eq word entry.0) entry.1 (sought word more other)

-- another slot, or the same word
abbrev is_apart : List ℕ → List ℕ × FirstWord → Bool
is_apart word entry = not (eqb (slot_of entry.0) (slot_of word)) || bytes_eq word entry.0

abbrev are_apart : Words FirstWord → Bool
are_apart [] = true
are_apart (entry ∷ more) = list_all (is_apart entry.0) more && are_apart more

follows : (a b : Bool) → a ≡ true → (not a || b) ≡ true → b ≡ true
follows true b h e = e
follows false b h e = absurd cc

clash : (b : Bool) → b ≡ false → b ≡ true → ⊥
clash true h k = absurd cc
clash false h k = absurd cc

-- a word with the slot of another, which isn't that one, is none that is apart from that one
other_word_apart : (word own : List ℕ) (entry : List ℕ × FirstWord) → slot_of own ≡ slot_of word → bytes_eq word own ≡ false → is_apart own entry ≡ true → bytes_eq word entry.0 ≡ false
other_word_apart word own entry slots differs apart =
    false_from_ne_true (bytes_eq word entry.0) (λ h.
    let is = (bytes_eq-Decides word entry.0).0 h in
    let same = follows (eqb (slot_of entry.0) (slot_of own)) (bytes_eq own entry.0) (eq-eqb (slot_of entry.0) (slot_of own) (ap slot_of (sym is) ∙ sym slots)) apart in
    let again = (bytes_eq-Decides word own).1 (is ∙ sym ((bytes_eq-Decides own entry.0).0 same)) in
    clash (bytes_eq word own) differs again)

none_left : (word own : List ℕ) (more : Words FirstWord) → slot_of own ≡ slot_of word → bytes_eq word own ≡ false → list_all (is_apart own) more ≡ true → sought word more firsts.Unknown ≡ firsts.Unknown
none_left word own [] slots differs all = refl
none_left word own (entry ∷ more) slots differs all =
    let p = and_parts (is_apart own entry) (list_all (is_apart own) more) all in
    ap (λ (t : Bool). cond t entry.1 (sought word more firsts.Unknown)) (other_word_apart word own entry slots differs p.0) ∙ none_left word own more slots differs p.1

both : (t : Bool) (x : FirstWord) → cond t x x ≡ x
both true x = refl
both false x = refl

-- what the word is by its slot is what it is by all comparisons
by_slot : (word : List ℕ) (entries : Words FirstWord) → are_apart entries ≡ true
    → cond (bytes_eq word (with_slot (slot_of word) entries).0) (with_slot (slot_of word) entries).1 firsts.Unknown ≡ sought word entries firsts.Unknown
by_slot word [] apart = both (bytes_eq word []) firsts.Unknown
by_slot word (entry ∷ more) apart =
    let p = and_parts (list_all (is_apart entry.0) more) (are_apart more) apart in
    by_test p.0 (by_slot word more p.1) (eqb (slot_of entry.0) (slot_of word)) refl
  where
    rest : List ℕ × FirstWord
    rest = with_slot (slot_of word) more

    here : list_all (is_apart entry.0) more ≡ true → slot_of entry.0 ≡ slot_of word → (t : Bool) → bytes_eq word entry.0 ≡ t → cond t entry.1 firsts.Unknown ≡ cond t entry.1 (sought word more firsts.Unknown)
    here all slots true is = refl
    here all slots false is = sym (none_left word entry.0 more slots is all)

    by_test : list_all (is_apart entry.0) more ≡ true → cond (bytes_eq word rest.0) rest.1 firsts.Unknown ≡ sought word more firsts.Unknown → (s : Bool) → eqb (slot_of entry.0) (slot_of word) ≡ s
        → cond (bytes_eq word (cond s entry rest).0) (cond s entry rest).1 firsts.Unknown ≡ cond (bytes_eq word entry.0) entry.1 (sought word more firsts.Unknown)
    by_test all on true is = here all (eqb-true (slot_of entry.0) (slot_of word) is) (bytes_eq word entry.0) refl
    by_test all on false is =
        let other = false_from_ne_true (bytes_eq word entry.0) (λ h. eqb-false (slot_of entry.0) (slot_of word) is (ap slot_of (sym ((bytes_eq-Decides word entry.0).0 h)))) in
        on ∙ ap (λ (t : Bool). cond t entry.1 (sought word more firsts.Unknown)) (sym other)

-- ---- all first words are those of the table

joined_words : (word : List ℕ) (front back : Words FirstWord) (other : FirstWord) → sought word (front ++ back) other ≡ sought word front (sought word back other)
joined_words word [] back other = refl
joined_words word (entry ∷ front) back other = ap (cond (bytes_eq word entry.0) entry.1) (joined_words word front back other)

unbuilt_first : (word : List ℕ) (words : List (List ℕ)) (other : FirstWord) → sought word (map (λ w. (w, firsts.Unbuilt)) words) other ≡ cond (list_any (bytes_eq word) words) firsts.Unbuilt other
unbuilt_first word [] other = refl
unbuilt_first word (w ∷ words) other = ap (cond (bytes_eq word w) firsts.Unbuilt) (unbuilt_first word words other) ∙ by_test (bytes_eq word w) (list_any (bytes_eq word) words)
  where
    by_test : (t u : Bool) → cond t firsts.Unbuilt (cond u firsts.Unbuilt other) ≡ cond (t || u) firsts.Unbuilt other
    by_test true u = refl
    by_test false u = refl

kind_first : {V : Type 0} (word : List ℕ) (f : V → CommandVerb) (entries : Words V) (more : Option CommandVerb) (other : FirstWord)
    → sought word (firsts_by (λ v. do_first (f v)) entries) (first_of more other) ≡ first_of (or_else (option_map f (found_in entries word)) more) other
kind_first word f [] more other = refl
kind_first {V} word f (entry ∷ entries) more other = by_test (bytes_eq word entry.0) (kind_first word f entries more other)
  where
    by_test : (t : Bool) → sought word (firsts_by (λ v. do_first (f v)) entries) (first_of more other) ≡ first_of (or_else (option_map f (found_in entries word)) more) other
        → cond t (do_first (f entry.1)) (sought word (firsts_by (λ v. do_first (f v)) entries) (first_of more other)) ≡ first_of (or_else (option_map f (cond t (Some entry.1) (found_in entries word))) more) other
    by_test true on = refl
    by_test false on = on

-- the words of one kind, and those behind them
kind_and : {V : Type 0} (word : List ℕ) (f : V → CommandVerb) (entries : Words V) (back : Words FirstWord) (more : Option CommandVerb) (other : FirstWord) → sought word back firsts.Unknown ≡ first_of more other
    → sought word (firsts_by (λ v. do_first (f v)) entries ++ back) firsts.Unknown ≡ first_of (or_else (option_map f (found_in entries word)) more) other
kind_and word f entries back more other h =
    joined_words word (firsts_by (λ v. do_first (f v)) entries) back firsts.Unknown ∙ ap (sought word (firsts_by (λ v. do_first (f v)) entries)) h ∙ kind_first word f entries more other

settings_first : (word : List ℕ) (entries : Words SettingVerb) → sought word (firsts_by (λ v. firsts.Built (verbs.Set v)) entries) firsts.Unknown ≡ setting_first (found_in entries word)
settings_first word [] = refl
settings_first word (entry ∷ entries) = by_test (bytes_eq word entry.0) (settings_first word entries)
  where
    by_test : (t : Bool) → sought word (firsts_by (λ v. firsts.Built (verbs.Set v)) entries) firsts.Unknown ≡ setting_first (found_in entries word)
        → cond t (firsts.Built (verbs.Set entry.1)) (sought word (firsts_by (λ v. firsts.Built (verbs.Set v)) entries) firsts.Unknown) ≡ setting_first (cond t (Some entry.1) (found_in entries word))
    by_test true on = refl
    by_test false on = on

others_first : (word : List ℕ) → cond (bytes_eq word (codes "session")) (firsts.Built verbs.Session) (cond (bytes_eq word (codes "end")) (firsts.Built verbs.End) (sought word (firsts_by (λ v. firsts.Built (verbs.Set v)) setting_words) firsts.Unknown)) ≡ other_word word
others_first word = ap (λ (x : FirstWord). cond (bytes_eq word (codes "session")) (firsts.Built verbs.Session) (cond (bytes_eq word (codes "end")) (firsts.Built verbs.End) x)) (settings_first word setting_words)

sub_first : (t : Bool) (x other : FirstWord) → x ≡ other → cond t (do_first kinds.Sub) x ≡ first_of (cond t (Some kinds.Sub) None) other
sub_first true x other h = refl
sub_first false x other h = h

commands_first : (word : List ℕ) → sought word built_words firsts.Unknown ≡ first_of (command_word word) (other_word word)
commands_first word =
    kind_and word kinds.NameText name_text_words from_number _ (other_word word)
    (kind_and word kinds.NameNumber name_number_words from_two _ (other_word word)
    (kind_and word kinds.TwoNames two_names_words from_name _ (other_word word)
    (kind_and word kinds.Name name_words from_put _ (other_word word)
    (kind_and word kinds.NameCell name_cell_words from_take _ (other_word word)
    (kind_and word kinds.CellName cell_name_words from_bare _ (other_word word)
    (kind_and word kinds.Bare bare_words from_sub _ (other_word word)
    (sub_first (bytes_eq word (codes "sub")) _ (other_word word) (others_first word))))))))
  where
    from_sub : Words FirstWord
    from_sub = (codes "sub", do_first kinds.Sub) ∷ (codes "session", firsts.Built verbs.Session) ∷ (codes "end", firsts.Built verbs.End) ∷ firsts_by (λ v. firsts.Built (verbs.Set v)) setting_words

    from_bare : Words FirstWord
    from_bare = firsts_by (λ v. do_first (kinds.Bare v)) bare_words ++ from_sub

    from_take : Words FirstWord
    from_take = firsts_by (λ v. do_first (kinds.CellName v)) cell_name_words ++ from_bare

    from_put : Words FirstWord
    from_put = firsts_by (λ v. do_first (kinds.NameCell v)) name_cell_words ++ from_take

    from_name : Words FirstWord
    from_name = firsts_by (λ v. do_first (kinds.Name v)) name_words ++ from_put

    from_two : Words FirstWord
    from_two = firsts_by (λ v. do_first (kinds.TwoNames v)) two_names_words ++ from_name

    from_number : Words FirstWord
    from_number = firsts_by (λ v. do_first (kinds.NameNumber v)) name_number_words ++ from_two

table_is_flat : (word : List ℕ) → sought word first_words firsts.Unknown ≡ word_of_table word
table_is_flat word =
    joined_words word (map (λ w. (w, firsts.Unbuilt)) unbuilt_words) built_words firsts.Unknown
    ∙ unbuilt_first word unbuilt_words (sought word built_words firsts.Unknown) ∙ ap (cond (list_any (bytes_eq word) unbuilt_words) firsts.Unbuilt) (commands_first word)

-- ---- one comparison is enough

compared : (word : List ℕ) (entry : List ℕ × FirstWord) → entry ≡ entry_at (slot_of word) → cond (bytes_eq word entry.0) entry.1 firsts.Unknown ≡ word_of_table word
compared word entry e = ap (λ (x : List ℕ × FirstWord). cond (bytes_eq word x.0) x.1 firsts.Unknown) e ∙ by_slot word first_words refl ∙ table_is_flat word

pub same_word : (word : List ℕ) (entry : List ℕ × FirstWord) → entry ≡ entry_at (slot_of word) → bytes_eq word entry.0 ≡ true → entry.1 ≡ word_of_table word
same_word word entry e same = ap (λ (t : Bool). cond t entry.1 firsts.Unknown) (sym same) ∙ compared word entry e

pub another_word : (word : List ℕ) (entry : List ℕ × FirstWord) → entry ≡ entry_at (slot_of word) → bytes_eq word entry.0 ≡ false → firsts.Unknown ≡ word_of_table word
another_word word entry e differs = ap (λ (t : Bool). cond t entry.1 firsts.Unknown) (sym differs) ∙ compared word entry e
