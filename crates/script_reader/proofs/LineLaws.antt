-- A line that is read is spelled so, and one that is spelled so is read.
use Rattle.std.proofs.Common.{◌≡◌, ℕ, ◌-◌, ◌^◌, Bool, true, cond, List, [], ◌∷◌, ◌++◌, Option, Some, None, Result, Ok, Err, refl, sym, ap, ◌∙◌, subst, arith}
use Rattle.std.specs.Prelude.{is_none}
use Rattle.std.specs.List.{list_all}
use Rattle.std.proofs.lemmas.Bool.{and_parts}
use Rattle.script_words.specs.declared.fault.Cause.{Cause}
use Rattle.script_words.specs.declared.fault.Cause.TheVariants as causes
use Rattle.plain_cord.specs.declared.script.Text.{Text}
use Rattle.plain_cord.specs.declared.script.Command.{Command}
use Rattle.plain_cord.specs.declared.script.Command.TheVariants as commands
use Rattle.script_words.specs.declared.verbs.CommandVerb.{CommandVerb}
use Rattle.script_words.specs.declared.verbs.CommandVerb.TheVariants as kinds
use Rattle.script_words.specs.declared.verbs.SettingVerb.{SettingVerb}
use Rattle.script_words.specs.declared.verbs.SettingVerb.TheVariants as setting_verbs
use Rattle.script_words.specs.declared.verbs.Setting.{Setting}
use Rattle.script_words.specs.declared.verbs.Setting.TheVariants as settings
use Rattle.script_words.specs.declared.verbs.Verb.{Verb}
use Rattle.script_words.specs.declared.verbs.Verb.TheVariants as verbs
use Rattle.script_words.specs.declared.verbs.FirstWord.{FirstWord}
use Rattle.script_words.specs.declared.verbs.FirstWord.TheVariants as firsts
use Rattle.script_reader.specs.declared.progress.Item.{Item}
use Rattle.script_reader.specs.declared.progress.Item.TheVariants as items
use Rattle.script_words.specs.Reading.{◌>>=◌}
use Rattle.script_words.specs.Words.{cut, word_at, last_word_at, part_at, name_at, is_letter, is_name_byte, is_shown}
use Rattle.script_words.specs.Numbers.{number_at}
use Rattle.script_words.specs.Texts.{text_at}
use Rattle.script_words.specs.Table.{word_of_table, least_of, most_of, least_setting, most_setting, name_command, name_text_command, name_number_command, name_cell_command, cell_name_command, two_names_command, bare_command, setting_of, Form, OfName, OfNameText, OfNameNumber, OfNameCell, OfCellName, OfTwoNames, OfBare, OfSub, command_of, form_of, verb_in}
use Rattle.script_reader.specs.Lines.{known, verb_at, name_line, number_line, name_text_line, name_number_line, number_name_line, sub_line, two_names_line, command_at, item_at}
use Rattle.script_words.specs.Spelling.{joined}
use Rattle.script_reader.specs.Spelling.{setting_verb, setting_number, verb_for, SaysName, SaysNumber, SaysNameText, SaysNameNumber, SaysTwoNames, SaysNumberName, SaysSub, SaysForm, SaysSetting, Says, SpellsItem}
use Rattle.script_words.proofs.Results.{bind_ok, if_ok, ok_is}
use Rattle.script_words.proofs.TableLaws.{command_of_form, form_of_command, is_word, built_word}
use Rattle.script_words.proofs.NumberLaws.{number_found, number_again}
use Rattle.script_words.proofs.TextLaws.{text_found, text_again}
use Rattle.script_words.proofs.WordLaws.{free_all, name_byte_free, name_byte_shown, all_weaker, cut_found, cut_again, word_found, word_again, last_word_found, last_word_again, part_found, part_again, none_is, name_found, name_again, name_long, name_free, name_shown, number_free, number_long, number_shown, text_shown, text_long, joined_shown}

-- ---- the first word

pub known_found : (o : FirstWord) (r : Option (List ℕ)) (x : Verb × Option (List ℕ)) → known o r ≡ Ok x → (o ≡ firsts.Built x.0) × (r ≡ x.1)
known_found firsts.Unknown r x e = absurd cc
known_found firsts.Unbuilt r x e = absurd cc
known_found (firsts.Built v) r x e =
    let made : Verb × Option (List ℕ) = (v, r) in
    let same : made ≡ x = ok_is made x e in
    (ap (λ (y : Verb × Option (List ℕ)). firsts.Built y.0) same, ap (λ (y : Verb × Option (List ℕ)). y.1) same)

-- the first word of a line that has one
pub record HasVerb (line : List ℕ) (verb : Verb) (rest : Option (List ℕ)) : Type 0 where
  pub word : List ℕ
  pub words : line ≡ joined word rest
  pub built : word_of_table word ≡ firsts.Built verb

pub verb_found : (line : List ℕ) (x : Verb × Option (List ℕ)) → verb_at line ≡ Ok x → HasVerb line x.0 x.1
unfolding verb_at
verb_found line x e =
    let a = if_ok (list_all is_shown line) causes.Byte (known (word_of_table (cut 32 line).0) (cut 32 line).1) x e in
    let k = known_found (word_of_table (cut 32 line).0) (cut 32 line).1 x a.1 in
    record { word = (cut 32 line).0; words = cut_found line ∙ ap (joined (cut 32 line).0) k.1; built = k.0 }

-- the bytes of a first word are letters and digits
word_bytes : (word : List ℕ) → is_word word ≡ true → list_all is_name_byte word ≡ true
word_bytes [] is = refl
word_bytes (c ∷ cs) is = (and_parts (is_letter c) (list_all is_name_byte (c ∷ cs)) is).1

pub verb_again : (word : List ℕ) (v : Verb) (r : Option (List ℕ)) → word_of_table word ≡ firsts.Built v → list_all is_shown (joined word r) ≡ true → verb_at (joined word r) ≡ Ok (v, r)
unfolding verb_at
verb_again word v r built shown =
    let e = cut_again word r (free_all is_name_byte name_byte_free word (word_bytes word (built_word word v built))) in
    ap (λ (t : Bool). let x : Result (Verb × Option (List ℕ)) Cause = cond t (known (word_of_table (cut 32 (joined word r)).0) (cut 32 (joined word r)).1) (Err causes.Byte) in x) shown
    ∙ ap (λ (p : List ℕ × Option (List ℕ)). known (word_of_table p.0) p.1) e
    ∙ ap (λ (o : FirstWord). known o r) built

-- ---- the kinds of lines

name_line_found : (rest : Option (List ℕ)) (a : List ℕ) → name_line rest ≡ Ok a → SaysName rest a
unfolding name_line
name_line_found rest a e =
    let w = bind_ok (last_word_at rest) (λ w. name_at w) a e in
    let n = name_found w.0 a w.2 in
    (last_word_found rest w.0 w.1 ∙ ap (λ (l : List ℕ). Some l) n.0, n.1)

name_line_again : (rest : Option (List ℕ)) (a : List ℕ) → SaysName rest a → name_line rest ≡ Ok a
unfolding name_line
name_line_again rest a h =
    let w : last_word_at rest ≡ Ok a = ap last_word_at h.0 ∙ last_word_again a (name_free a h.1) (name_long a h.1) in
    ap (λ (x : Result (List ℕ) Cause). x >>= λ w. name_at w) w ∙ name_again a h.1

number_line_found : (least most : ℕ) (rest : Option (List ℕ)) (n : ℕ) → number_line least most rest ≡ Ok n → SaysNumber least most rest n
unfolding number_line
number_line_found least most rest n e =
    let w = bind_ok (last_word_at rest) (λ w. number_at least most w) n e in
    let k = number_found least most w.0 n w.2 in
    (w.0, last_word_found rest w.0 w.1, k.0, k.1, k.2)

number_line_again : (least most : ℕ) (rest : Option (List ℕ)) (n : ℕ) → SaysNumber least most rest n → number_line least most rest ≡ Ok n
unfolding number_line
number_line_again least most rest n h =
    let w : last_word_at rest ≡ Ok h.0 = ap last_word_at h.1 ∙ last_word_again h.0 (number_free h.0 n h.2) (number_long h.0 n h.2) in
    ap (λ (x : Result (List ℕ) Cause). x >>= λ w. number_at least most w) w ∙ number_again least most h.0 n h.2 h.3 h.4

-- a word, and what is behind it
two_parts : (rest : Option (List ℕ)) (x : List ℕ × Option (List ℕ)) (a part : List ℕ) → word_at rest ≡ Ok x → x.1 ≡ Some part → x.0 ≡ a → rest ≡ Some (a ++ 32 ∷ part)
two_parts rest x a part w behind same = word_found rest x w ∙ ap (λ (r : Option (List ℕ)). Some (joined x.0 r)) behind ∙ ap (λ (l : List ℕ). Some (l ++ 32 ∷ part)) same

name_text_found : (least : ℕ) (rest : Option (List ℕ)) (x : List ℕ × Text) → name_text_line least rest ≡ Ok x → SaysNameText least rest x.0 x.1
unfolding name_text_line
name_text_found least rest x e =
    let a = bind_ok (word_at rest) (λ word. part_at word.1 >>= λ part. name_at word.0 >>= λ n. text_at least part >>= λ text. Ok (n, text)) x e in
    let b = bind_ok (part_at a.0.1) (λ part. name_at a.0.0 >>= λ n. text_at least part >>= λ text. Ok (n, text)) x a.2 in
    let c = bind_ok (name_at a.0.0) (λ n. text_at least b.0 >>= λ text. Ok (n, text)) x b.2 in
    let d = bind_ok (text_at least b.0) (λ text. Ok (c.0, text)) x c.2 in
    let n = name_found a.0.0 c.0 c.1 in
    let made : List ℕ × Text = (c.0, d.0) in
    subst (λ (y : List ℕ × Text). SaysNameText least rest y.0 y.1) (ok_is made x d.2)
    (b.0, two_parts rest a.0 c.0 b.0 a.1 (part_found a.0.1 b.0 b.1) n.0, n.1, text_found least b.0 d.0 d.1)

name_text_again : (least : ℕ) (rest : Option (List ℕ)) (a : List ℕ) (t : Text) → SaysNameText least rest a t → name_text_line least rest ≡ Ok (a, t)
unfolding name_text_line
name_text_again least rest a t h =
    let w : word_at rest ≡ Ok (a, Some h.0) = ap word_at h.1 ∙ word_again a (Some h.0) (name_free a h.2) (name_long a h.2) in
    rw (w, part_again h.0 (text_long least h.0 t h.3), name_again a h.2, text_again least h.0 t h.3) refl

name_number_found : (least most : ℕ) (rest : Option (List ℕ)) (x : List ℕ × ℕ) → name_number_line least most rest ≡ Ok x → SaysNameNumber least most rest x.0 x.1
unfolding name_number_line
name_number_found least most rest x e =
    let a = bind_ok (word_at rest) (λ word. last_word_at word.1 >>= λ number. name_at word.0 >>= λ n. number_at least most number >>= λ k. Ok (n, k)) x e in
    let b = bind_ok (last_word_at a.0.1) (λ number. name_at a.0.0 >>= λ n. number_at least most number >>= λ k. Ok (n, k)) x a.2 in
    let c = bind_ok (name_at a.0.0) (λ n. number_at least most b.0 >>= λ k. Ok (n, k)) x b.2 in
    let d = bind_ok (number_at least most b.0) (λ k. Ok (c.0, k)) x c.2 in
    let n = name_found a.0.0 c.0 c.1 in
    let k = number_found least most b.0 d.0 d.1 in
    let made : List ℕ × ℕ = (c.0, d.0) in
    subst (λ (y : List ℕ × ℕ). SaysNameNumber least most rest y.0 y.1) (ok_is made x d.2)
    (b.0, two_parts rest a.0 c.0 b.0 a.1 (last_word_found a.0.1 b.0 b.1) n.0, n.1, k.0, k.1, k.2)

name_number_again : (least most : ℕ) (rest : Option (List ℕ)) (a : List ℕ) (n : ℕ) → SaysNameNumber least most rest a n → name_number_line least most rest ≡ Ok (a, n)
unfolding name_number_line
name_number_again least most rest a n h =
    let w : word_at rest ≡ Ok (a, Some h.0) = ap word_at h.1 ∙ word_again a (Some h.0) (name_free a h.2) (name_long a h.2) in
    rw (w, last_word_again h.0 (number_free h.0 n h.3) (number_long h.0 n h.3), name_again a h.2, number_again least most h.0 n h.3 h.4 h.5) refl

two_names_found : (rest : Option (List ℕ)) (x : List ℕ × List ℕ) → two_names_line rest ≡ Ok x → SaysTwoNames rest x.0 x.1
unfolding two_names_line
two_names_found rest x e =
    let a = bind_ok (word_at rest) (λ word. last_word_at word.1 >>= λ other. name_at word.0 >>= λ n. name_at other >>= λ m. Ok (n, m)) x e in
    let b = bind_ok (last_word_at a.0.1) (λ other. name_at a.0.0 >>= λ n. name_at other >>= λ m. Ok (n, m)) x a.2 in
    let c = bind_ok (name_at a.0.0) (λ n. name_at b.0 >>= λ m. Ok (n, m)) x b.2 in
    let d = bind_ok (name_at b.0) (λ m. Ok (c.0, m)) x c.2 in
    let n = name_found a.0.0 c.0 c.1 in
    let m = name_found b.0 d.0 d.1 in
    let made : List ℕ × List ℕ = (c.0, d.0) in
    subst (λ (y : List ℕ × List ℕ). SaysTwoNames rest y.0 y.1) (ok_is made x d.2)
    (two_parts rest a.0 c.0 d.0 a.1 (last_word_found a.0.1 b.0 b.1 ∙ ap (λ (l : List ℕ). Some l) m.0) n.0, n.1, m.1)

two_names_again : (rest : Option (List ℕ)) (a b : List ℕ) → SaysTwoNames rest a b → two_names_line rest ≡ Ok (a, b)
unfolding two_names_line
two_names_again rest a b h =
    let w : word_at rest ≡ Ok (a, Some b) = ap word_at h.0 ∙ word_again a (Some b) (name_free a h.1) (name_long a h.1) in
    rw (w, last_word_again b (name_free b h.2) (name_long b h.2), name_again a h.1, name_again b h.2) refl

number_name_found : (least most : ℕ) (rest : Option (List ℕ)) (x : ℕ × List ℕ) → number_name_line least most rest ≡ Ok x → SaysNumberName least most rest x.0 x.1
unfolding number_name_line
number_name_found least most rest x e =
    let a = bind_ok (word_at rest) (λ number. last_word_at number.1 >>= λ word. name_at word >>= λ n. number_at least most number.0 >>= λ k. Ok (k, n)) x e in
    let b = bind_ok (last_word_at a.0.1) (λ word. name_at word >>= λ n. number_at least most a.0.0 >>= λ k. Ok (k, n)) x a.2 in
    let c = bind_ok (name_at b.0) (λ n. number_at least most a.0.0 >>= λ k. Ok (k, n)) x b.2 in
    let d = bind_ok (number_at least most a.0.0) (λ k. Ok (k, c.0)) x c.2 in
    let n = name_found b.0 c.0 c.1 in
    let k = number_found least most a.0.0 d.0 d.1 in
    let made : ℕ × List ℕ = (d.0, c.0) in
    subst (λ (y : ℕ × List ℕ). SaysNumberName least most rest y.0 y.1) (ok_is made x d.2)
    (a.0.0, two_parts rest a.0 a.0.0 c.0 a.1 (last_word_found a.0.1 b.0 b.1 ∙ ap (λ (l : List ℕ). Some l) n.0) refl, n.1, k.0, k.1, k.2)

number_name_again : (least most : ℕ) (rest : Option (List ℕ)) (n : ℕ) (a : List ℕ) → SaysNumberName least most rest n a → number_name_line least most rest ≡ Ok (n, a)
unfolding number_name_line
number_name_again least most rest n a h =
    let w : word_at rest ≡ Ok (h.0, Some a) = ap word_at h.1 ∙ word_again h.0 (Some a) (number_free h.0 n h.3) (number_long h.0 n h.3) in
    rw (w, last_word_again a (name_free a h.2) (name_long a h.2), name_again a h.2, number_again least most h.0 n h.3 h.4 h.5) refl

sub_found : (rest : Option (List ℕ)) (x : List ℕ × ℕ × ℕ × List ℕ) → sub_line rest ≡ Ok x → SaysSub rest x.0 x.1 x.2 x.3
unfolding sub_line
sub_found rest x e =
    let a1 = bind_ok (word_at rest) (λ first. word_at first.1 >>= λ second. word_at second.1 >>= λ third. last_word_at third.1 >>= λ last. name_at first.0 >>= λ a. name_at last >>= λ b. number_at 0 (2 ^ 64 - 1) second.0 >>= λ pos. number_at 0 (2 ^ 64 - 1) third.0 >>= λ n. Ok (a, pos, n, b)) x e in
    let a2 = bind_ok (word_at a1.0.1) (λ second. word_at second.1 >>= λ third. last_word_at third.1 >>= λ last. name_at a1.0.0 >>= λ a. name_at last >>= λ b. number_at 0 (2 ^ 64 - 1) second.0 >>= λ pos. number_at 0 (2 ^ 64 - 1) third.0 >>= λ n. Ok (a, pos, n, b)) x a1.2 in
    let a3 = bind_ok (word_at a2.0.1) (λ third. last_word_at third.1 >>= λ last. name_at a1.0.0 >>= λ a. name_at last >>= λ b. number_at 0 (2 ^ 64 - 1) a2.0.0 >>= λ pos. number_at 0 (2 ^ 64 - 1) third.0 >>= λ n. Ok (a, pos, n, b)) x a2.2 in
    let a4 = bind_ok (last_word_at a3.0.1) (λ last. name_at a1.0.0 >>= λ a. name_at last >>= λ b. number_at 0 (2 ^ 64 - 1) a2.0.0 >>= λ pos. number_at 0 (2 ^ 64 - 1) a3.0.0 >>= λ n. Ok (a, pos, n, b)) x a3.2 in
    let a5 = bind_ok (name_at a1.0.0) (λ a. name_at a4.0 >>= λ b. number_at 0 (2 ^ 64 - 1) a2.0.0 >>= λ pos. number_at 0 (2 ^ 64 - 1) a3.0.0 >>= λ n. Ok (a, pos, n, b)) x a4.2 in
    let a6 = bind_ok (name_at a4.0) (λ b. number_at 0 (2 ^ 64 - 1) a2.0.0 >>= λ pos. number_at 0 (2 ^ 64 - 1) a3.0.0 >>= λ n. Ok (a5.0, pos, n, b)) x a5.2 in
    let a7 = bind_ok (number_at 0 (2 ^ 64 - 1) a2.0.0) (λ pos. number_at 0 (2 ^ 64 - 1) a3.0.0 >>= λ n. Ok (a5.0, pos, n, a6.0)) x a6.2 in
    let a8 = bind_ok (number_at 0 (2 ^ 64 - 1) a3.0.0) (λ n. Ok (a5.0, a7.0, n, a6.0)) x a7.2 in
    let n = name_found a1.0.0 a5.0 a5.1 in
    let m = name_found a4.0 a6.0 a6.1 in
    let k = number_found 0 (2 ^ 64 - 1) a2.0.0 a7.0 a7.1 in
    let j = number_found 0 (2 ^ 64 - 1) a3.0.0 a8.0 a8.1 in
    let third : a2.0.1 ≡ Some (a3.0.0 ++ 32 ∷ a6.0) = two_parts a2.0.1 a3.0 a3.0.0 a6.0 a3.1 (last_word_found a3.0.1 a4.0 a4.1 ∙ ap (λ (l : List ℕ). Some l) m.0) refl in
    let second : a1.0.1 ≡ Some (a2.0.0 ++ 32 ∷ (a3.0.0 ++ 32 ∷ a6.0)) = two_parts a1.0.1 a2.0 a2.0.0 (a3.0.0 ++ 32 ∷ a6.0) a2.1 third refl in
    let made : List ℕ × ℕ × ℕ × List ℕ = (a5.0, a7.0, a8.0, a6.0) in
    subst (λ (y : List ℕ × ℕ × ℕ × List ℕ). SaysSub rest y.0 y.1 y.2 y.3) (ok_is made x a8.2)
    (a2.0.0, a3.0.0, two_parts rest a1.0 a5.0 (a2.0.0 ++ 32 ∷ (a3.0.0 ++ 32 ∷ a6.0)) a1.1 second n.0, n.1, m.1, k.0, j.0)

sub_again : (rest : Option (List ℕ)) (a : List ℕ) (pos n : ℕ) (b : List ℕ) → SaysSub rest a pos n b → sub_line rest ≡ Ok (a, pos, n, b)
unfolding sub_line
sub_again rest a pos n b h =
    let w : word_at rest ≡ Ok (a, Some (h.0 ++ 32 ∷ (h.1 ++ 32 ∷ b))) = ap word_at h.2 ∙ word_again a (Some (h.0 ++ 32 ∷ (h.1 ++ 32 ∷ b))) (name_free a h.3) (name_long a h.3) in
    rw (
      w,
      word_again h.0 (Some (h.1 ++ 32 ∷ b)) (number_free h.0 pos h.5) (number_long h.0 pos h.5),
      word_again h.1 (Some b) (number_free h.1 n h.6) (number_long h.1 n h.6),
      last_word_again b (name_free b h.4) (name_long b h.4),
      name_again a h.3,
      name_again b h.4,
      number_again 0 (2 ^ 64 - 1) h.0 pos h.5 (omega arith) (omega (arith, h.5.small)),
      number_again 0 (2 ^ 64 - 1) h.1 n h.6 (omega arith) (omega (arith, h.6.small)),
    ) refl

-- ---- every item

-- a command that is read has the form of what stands there
abbrev IsSaid : CommandVerb → Option (List ℕ) → Command → Type 0
IsSaid verb rest command = (verb_in (form_of command) ≡ verb) × SaysForm rest (form_of command)

said_form : (form : Form) (rest : Option (List ℕ)) → SaysForm rest form → IsSaid (verb_in form) rest (command_of form)
said_form form rest h = (ap verb_in (form_of_command form), subst (SaysForm rest) (sym (form_of_command form)) h)

command_found : (verb : CommandVerb) (rest : Option (List ℕ)) (command : Command) → command_at verb rest ≡ Ok command → IsSaid verb rest command
unfolding command_at
command_found (kinds.Name v) rest command e =
    let a = bind_ok (name_line rest) (λ x. Ok (name_command v x)) command e in
    subst (IsSaid (kinds.Name v) rest) (ok_is (name_command v a.0) command a.2) (said_form (OfName v a.0) rest (name_line_found rest a.0 a.1))
command_found (kinds.NameText v) rest command e =
    let a = bind_ok (name_text_line (least_of v) rest) (λ x. Ok (name_text_command v x.0 x.1)) command e in
    subst (IsSaid (kinds.NameText v) rest) (ok_is (name_text_command v a.0.0 a.0.1) command a.2) (said_form (OfNameText v a.0.0 a.0.1) rest (name_text_found (least_of v) rest a.0 a.1))
command_found (kinds.NameNumber v) rest command e =
    let a = bind_ok (name_number_line 0 (most_of v) rest) (λ x. Ok (name_number_command v x.0 x.1)) command e in
    subst (IsSaid (kinds.NameNumber v) rest) (ok_is (name_number_command v a.0.0 a.0.1) command a.2) (said_form (OfNameNumber v a.0.0 a.0.1) rest (name_number_found 0 (most_of v) rest a.0 a.1))
command_found (kinds.NameCell v) rest command e =
    let a = bind_ok (name_number_line 0 63 rest) (λ x. Ok (name_cell_command v x.0 x.1)) command e in
    subst (IsSaid (kinds.NameCell v) rest) (ok_is (name_cell_command v a.0.0 a.0.1) command a.2) (said_form (OfNameCell v a.0.0 a.0.1) rest (name_number_found 0 63 rest a.0 a.1))
command_found (kinds.CellName v) rest command e =
    let a = bind_ok (number_name_line 0 63 rest) (λ x. Ok (cell_name_command v x.0 x.1)) command e in
    subst (IsSaid (kinds.CellName v) rest) (ok_is (cell_name_command v a.0.0 a.0.1) command a.2) (said_form (OfCellName v a.0.0 a.0.1) rest (number_name_found 0 63 rest a.0 a.1))
command_found (kinds.TwoNames v) rest command e =
    let a = bind_ok (two_names_line rest) (λ x. Ok (two_names_command v x.0 x.1)) command e in
    subst (IsSaid (kinds.TwoNames v) rest) (ok_is (two_names_command v a.0.0 a.0.1) command a.2) (said_form (OfTwoNames v a.0.0 a.0.1) rest (two_names_found rest a.0 a.1))
command_found (kinds.Bare v) rest command e =
    let a = if_ok (is_none rest) causes.Words (Ok (bare_command v)) command e in
    subst (IsSaid (kinds.Bare v) rest) (ok_is (bare_command v) command a.1) (said_form (OfBare v) rest (none_is rest a.0))
command_found kinds.Sub rest command e =
    let a = bind_ok (sub_line rest) (λ x. Ok (commands.Sub x.0 x.1 x.2 x.3)) command e in
    subst (IsSaid kinds.Sub rest) (ok_is (commands.Sub a.0.0 a.0.1 a.0.2 a.0.3) command a.2) (said_form (OfSub a.0.0 a.0.1 a.0.2 a.0.3) rest (sub_found rest a.0 a.1))

setting_verb_of : (v : SettingVerb) (n : ℕ) → setting_verb (setting_of v n) ≡ v
setting_verb_of setting_verbs.Pool n = refl
setting_verb_of setting_verbs.Passes n = refl
setting_verb_of setting_verbs.Stride n = refl

setting_said : (v : SettingVerb) (rest : Option (List ℕ)) (n : ℕ) → SaysNumber (least_setting v) (most_setting v) rest n → SaysSetting rest (setting_of v n)
setting_said setting_verbs.Pool rest n h = h
setting_said setting_verbs.Passes rest n h = h
setting_said setting_verbs.Stride rest n h = h

pub item_found : (v : Verb) (rest : Option (List ℕ)) (item : Item) → item_at v rest ≡ Ok item → (verb_for item ≡ v) × Says rest item
unfolding item_at
item_found (verbs.Set v) rest item e =
    let a = bind_ok (number_line (least_setting v) (most_setting v) rest) (λ n. Ok (items.Set (setting_of v n))) item e in
    subst (λ (i : Item). (verb_for i ≡ verbs.Set v) × Says rest i) (ok_is (items.Set (setting_of v a.0)) item a.2)
    (ap verbs.Set (setting_verb_of v a.0), setting_said v rest a.0 (number_line_found (least_setting v) (most_setting v) rest a.0 a.1))
item_found verbs.Session rest item e = let a = bind_ok (name_line rest) (λ name. Ok (items.Begin name)) item e in subst (λ (i : Item). (verb_for i ≡ verbs.Session) × Says rest i) (ok_is (items.Begin a.0) item a.2) (refl, name_line_found rest a.0 a.1)
item_found verbs.End rest item e = let a = if_ok (is_none rest) causes.Words (Ok items.End) item e in subst (λ (i : Item). (verb_for i ≡ verbs.End) × Says rest i) (ok_is items.End item a.1) (refl, none_is rest a.0)
item_found (verbs.Do v) rest item e =
    let a = bind_ok (command_at v rest) (λ command. Ok (items.Do command)) item e in
    let said = command_found v rest a.0 a.1 in
    subst (λ (i : Item). (verb_for i ≡ verbs.Do v) × Says rest i) (ok_is (items.Do a.0) item a.2) (ap verbs.Do said.0, said.1)

form_again : (form : Form) (rest : Option (List ℕ)) → SaysForm rest form → command_at (verb_in form) rest ≡ Ok (command_of form)
unfolding command_at
form_again (OfName v a) rest h = rw (name_line_again rest a h) refl
form_again (OfNameText v a t) rest h = rw (name_text_again (least_of v) rest a t h) refl
form_again (OfNameNumber v a n) rest h = rw (name_number_again 0 (most_of v) rest a n h) refl
form_again (OfNameCell v a cell) rest h = rw (name_number_again 0 63 rest a cell h) refl
form_again (OfCellName v cell a) rest h = rw (number_name_again 0 63 rest cell a h) refl
form_again (OfTwoNames v a b) rest h = rw (two_names_again rest a b h) refl
form_again (OfBare v) rest h = rw h refl
form_again (OfSub a pos n b) rest h = rw (sub_again rest a pos n b h) refl

setting_again : (setting : Setting) (rest : Option (List ℕ)) → SaysSetting rest setting → item_at (verbs.Set (setting_verb setting)) rest ≡ Ok (items.Set setting)
unfolding item_at
setting_again (settings.Pool n) rest h = rw (number_line_again 1 262144 rest n h) refl
setting_again (settings.Passes n) rest h = rw (number_line_again 1 262144 rest n h) refl
setting_again (settings.Stride n) rest h = rw (number_line_again 0 1000000 rest n h) refl

pub item_again : (item : Item) (rest : Option (List ℕ)) → Says rest item → item_at (verb_for item) rest ≡ Ok item
unfolding item_at
item_again (items.Set setting) rest h = setting_again setting rest h
item_again (items.Begin name) rest h = rw (name_line_again rest name h) refl
item_again (items.Do command) rest h = ap (λ (r : Result Command Cause). let x : Result Item Cause = r >>= λ c. Ok (items.Do c) in x) (form_again (form_of command) rest h ∙ ap Ok (command_of_form command))
item_again items.End rest h = rw h refl

-- ---- what is spelled has no other bytes

abbrev RestShown : Option (List ℕ) → Type 0
RestShown None = Unit {0}
RestShown (Some rest) = list_all is_shown rest ≡ true

some_shown : (rest : Option (List ℕ)) (l : List ℕ) → rest ≡ Some l → list_all is_shown l ≡ true → RestShown rest
some_shown rest l e h = subst RestShown (sym e) h

form_shown : (form : Form) (rest : Option (List ℕ)) → SaysForm rest form → RestShown rest
form_shown (OfName v a) rest h = some_shown rest a h.0 (name_shown a h.1)
form_shown (OfNameText v a t) rest h = some_shown rest _ h.1 (joined_shown a h.0 (name_shown a h.2) (text_shown (least_of v) h.0 t h.3))
form_shown (OfNameNumber v a n) rest h = some_shown rest _ h.1 (joined_shown a h.0 (name_shown a h.2) (number_shown h.0 n h.3))
form_shown (OfNameCell v a cell) rest h = some_shown rest _ h.1 (joined_shown a h.0 (name_shown a h.2) (number_shown h.0 cell h.3))
form_shown (OfCellName v cell a) rest h = some_shown rest _ h.1 (joined_shown h.0 a (number_shown h.0 cell h.3) (name_shown a h.2))
form_shown (OfTwoNames v a b) rest h = some_shown rest _ h.0 (joined_shown a b (name_shown a h.1) (name_shown b h.2))
form_shown (OfBare v) rest h = subst RestShown (sym h) tt
form_shown (OfSub a pos n b) rest h = some_shown rest _ h.2 (joined_shown a _ (name_shown a h.3) (joined_shown h.0 _ (number_shown h.0 pos h.5) (joined_shown h.1 b (number_shown h.1 n h.6) (name_shown b h.4))))

item_shown : (item : Item) (rest : Option (List ℕ)) → Says rest item → RestShown rest
item_shown (items.Set setting) rest h = some_shown rest h.0 h.1 (number_shown h.0 (setting_number setting) h.2)
item_shown (items.Begin name) rest h = some_shown rest name h.0 (name_shown name h.1)
item_shown (items.Do command) rest h = form_shown (form_of command) rest h
item_shown items.End rest h = subst RestShown (sym h) tt

line_shown : (word : List ℕ) (rest : Option (List ℕ)) → is_word word ≡ true → RestShown rest → list_all is_shown (joined word rest) ≡ true
line_shown word None is h = all_weaker is_name_byte is_shown name_byte_shown word (word_bytes word is)
line_shown word (Some rest) is h = joined_shown word rest (all_weaker is_name_byte is_shown name_byte_shown word (word_bytes word is)) h

pub spelled_verb : (line : List ℕ) (item : Item) (h : SpellsItem line item) → verb_at line ≡ Ok (verb_for item, h.rest)
spelled_verb line item h = ap verb_at h.words ∙ verb_again h.word (verb_for item) h.rest h.built (line_shown h.word h.rest (built_word h.word (verb_for item) h.built) (item_shown item h.rest h.says))
