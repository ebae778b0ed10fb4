-- The slots of first words: a word can be no other than the one that has its slot.
use Rattle.std.specs.Prelude.{ℕ, ◌+◌, ◌-◌, ◌*◌, ◌%◌, List, [], ◌∷◌, ◌++◌, length, map, nat_lt, ◌==◌, if◌then◌else◌, codes, slice_index}
use Rattle.script_words.specs.declared.verbs.CommandVerb.{CommandVerb}
use Rattle.script_words.specs.declared.verbs.CommandVerb.TheVariants as kinds
use Rattle.script_words.specs.declared.verbs.Verb.TheVariants as verbs
use Rattle.script_words.specs.declared.verbs.FirstWord.{FirstWord}
use Rattle.script_words.specs.declared.verbs.FirstWord.TheVariants as firsts
use Rattle.script_words.specs.Table.{Words, name_words, name_text_words, name_number_words, name_cell_words, cell_name_words, two_names_words, bare_words, setting_words, unbuilt_words}

-- a number below 128, by the length, the second byte and the last one
abbrev pub slot_of : List ℕ → ℕ
slot_of word = if nat_lt (length word) 2 then 0 else (length word + 2 * slice_index word 1 + 10 * slice_index word (length word - 1)) % 128

abbrev pub do_first : CommandVerb → FirstWord
do_first kind = firsts.Built (verbs.Do kind)

abbrev pub firsts_by : {V : Type 0} → (V → FirstWord) → Words V → Words FirstWord
firsts_by f entries = map (λ entry. (entry.0, f entry.1)) entries

-- the first words of lines that are built
abbrev pub built_words : Words FirstWord
built_words =
    firsts_by (λ v. do_first (kinds.NameText v)) name_text_words
    ++ (firsts_by (λ v. do_first (kinds.NameNumber v)) name_number_words
    ++ (firsts_by (λ v. do_first (kinds.TwoNames v)) two_names_words
    ++ (firsts_by (λ v. do_first (kinds.Name v)) name_words
    ++ (firsts_by (λ v. do_first (kinds.NameCell v)) name_cell_words
    ++ (firsts_by (λ v. do_first (kinds.CellName v)) cell_name_words
    ++ (firsts_by (λ v. do_first (kinds.Bare v)) bare_words
    ++ ((codes "sub", do_first kinds.Sub) ∷ (codes "session", firsts.Built verbs.Session) ∷ (codes "end", firsts.Built verbs.End)
    ∷ firsts_by (λ v. firsts.Built (verbs.Set v)) setting_words)))))))

-- all first words; where one stands twice, the first counts
abbrev pub first_words : Words FirstWord
first_words = map (λ word. (word, firsts.Unbuilt)) unbuilt_words ++ built_words

-- the first of these words that has the slot, and what it is; an empty one where there is none
abbrev pub with_slot : ℕ → Words FirstWord → List ℕ × FirstWord
with_slot slot [] = ([], firsts.Unknown)
with_slot slot (entry ∷ more) = if slot_of entry.0 == slot then entry else with_slot slot more

abbrev pub entry_at : ℕ → List ℕ × FirstWord
entry_at slot = with_slot slot first_words
