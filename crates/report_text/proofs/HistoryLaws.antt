-- Histories are known by what is printed of them.
use Rattle.std.proofs.Common.{◌≡◌, ◌∙◌, sym, ap, ap₂, subst, refl, ℕ, suc, zero, Bool, true, false, if◌then◌else◌, List, [], ◌∷◌, ◌++◌, length, get_or, arith, ◌==◌, Option, Some, None, IfSome, decimal, codes, append_assoc}
use Rattle.std.specs.List.{All, AllByRecursion}
use Rattle.std.proofs.lemmas.Bool.Decides.{nat_tests}
use Rattle.std.proofs.lemmas.List.{append_cancel_left}
use Rattle.std.proofs.lemmas.List.Elements.{recursion_from_All}
use Rattle.plain_cord.specs.declared.script.Session.{Session}
use Rattle.plain_cord.specs.declared.history.Act.{Act}
use Rattle.plain_cord.specs.declared.history.Act.TheVariants.{Put, Take, Peek, Swap}
use Rattle.plain_cord.specs.declared.history.Entry.{Entry}
use Rattle.report_text.specs.Histories.{act_word, lengths_text, entry_text, name_at, entry_line, entry_lines, history_text, pool_line}
use Rattle.report_text.specs.Outputs.{HasProperLengths}
use Rattle.report_text.specs.Readable.{IsNumber, IsInWord, NamesDiffer, IsReadableEntry, IsReadableHistory}
use Rattle.report_text.proofs.Runs.{all_pass, both-pass, run_split, decimal_split}

behind-one : {a : ℕ} {xs ys : List ℕ} → a ∷ xs ≡ a ∷ ys → xs ≡ ys
behind-one e = cc

behind-three : {a b c : ℕ} {xs ys : List ℕ} → a ∷ b ∷ c ∷ xs ≡ a ∷ b ∷ c ∷ ys → xs ≡ ys
behind-three e = cc

-- ---- the lengths

none-is-some : {A : Type 0} {n : ℕ} → Some n ≡ None → A
none-is-some {A} {n} e = absurd (let f : Some n ≡ None = e in cc)

no-length : {A : Type 0} → false ≡ true → A
no-length e = absurd cc

empty-or-ok : {A : Type 0} {xs ys : List ℕ} → 101 ∷ xs ≡ 111 ∷ ys → A
empty-or-ok e = absurd (omega (arith, ap (λ text. get_or text 0 0) e))

-- what the lengths and what is behind their line say
abbrev Told : Option ℕ → Option ℕ → List ℕ → Option ℕ → Option ℕ → List ℕ → Type 0
Told came was rest later found others = (came ≡ later) × (was ≡ found) × (rest ≡ others)

abbrev Told_of : Act → Type 0
Told_of act = (came was later found : Option ℕ) (rest others : List ℕ) → IfSome came IsNumber → IfSome was IsNumber → IfSome later IsNumber → IfSome found IsNumber → HasProperLengths act came was → HasProperLengths act later found
    → lengths_text came was ++ 10 ∷ rest ≡ lengths_text later found ++ 10 ∷ others → Told came was rest later found others

put-split : Told_of Put
put-split None was later found rest others a b c d p q e = no-length p.0
put-split (Some m) (Some k) later found rest others a b c d p q e = none-is-some p.1
put-split (Some m) None None found rest others a b c d p q e = no-length q.0
put-split (Some m) None (Some n) (Some l) rest others a b c d p q e = none-is-some q.1
put-split (Some m) None (Some n) None rest others a b c d p q e =
    let text : lengths_text (Some m) None ++ 10 ∷ rest ≡ 111 ∷ 107 ∷ 32 ∷ (decimal m ++ 10 ∷ rest) = simp append_assoc in
    let other : lengths_text (Some n) None ++ 10 ∷ others ≡ 111 ∷ 107 ∷ 32 ∷ (decimal n ++ 10 ∷ others) = simp append_assoc in
    let split = decimal_split m n (10 ∷ rest) (10 ∷ others) a c refl refl (behind-three (sym text ∙ (e ∙ other))) in
    (ap (λ k. Some k) split.0, refl, behind-one split.1)

found-split : Told_of Take
found-split (Some m) was later found rest others a b c d p q e = none-is-some p
found-split None was (Some n) found rest others a b c d p q e = none-is-some q
found-split None None None None rest others a b c d p q e = (refl, refl, behind e)
  where
    behind : {xs ys : List ℕ} → codes "empty" ++ 10 ∷ xs ≡ codes "empty" ++ 10 ∷ ys → xs ≡ ys
    behind e = cc
found-split None None None (Some l) rest others a b c d p q e = empty-or-ok e
found-split None (Some k) None None rest others a b c d p q e = empty-or-ok (sym e)
found-split None (Some k) None (Some l) rest others a b c d p q e =
    let text : lengths_text None (Some k) ++ 10 ∷ rest ≡ 111 ∷ 107 ∷ 32 ∷ (decimal k ++ 10 ∷ rest) = simp append_assoc in
    let other : lengths_text None (Some l) ++ 10 ∷ others ≡ 111 ∷ 107 ∷ 32 ∷ (decimal l ++ 10 ∷ others) = simp append_assoc in
    let split = decimal_split k l (10 ∷ rest) (10 ∷ others) b d refl refl (behind-three (sym text ∙ (e ∙ other))) in
    (refl, ap (λ n. Some n) split.0, behind-one split.1)

swap-split : Told_of Swap
swap-split (Some m) None later found rest others a b c d p q e = none-is-some p
swap-split None (Some k) later found rest others a b c d p q e = no-length p
swap-split None None (Some n) None rest others a b c d p q e = none-is-some q
swap-split None None None (Some l) rest others a b c d p q e = no-length q
swap-split None None None None rest others a b c d p q e = (refl, refl, behind e)
  where
    behind : {xs ys : List ℕ} → codes "empty" ++ 10 ∷ xs ≡ codes "empty" ++ 10 ∷ ys → xs ≡ ys
    behind e = cc
swap-split None None (Some n) (Some l) rest others a b c d p q e = empty-or-ok e
swap-split (Some m) (Some k) (Some n) None rest others a b c d p q e = none-is-some q
swap-split (Some m) (Some k) None (Some l) rest others a b c d p q e = no-length q
swap-split (Some m) (Some k) None None rest others a b c d p q e = empty-or-ok (sym e)
swap-split (Some m) (Some k) (Some n) (Some l) rest others a b c d p q e =
    let text : lengths_text (Some m) (Some k) ++ 10 ∷ rest ≡ 111 ∷ 107 ∷ 32 ∷ (decimal m ++ 32 ∷ (decimal k ++ 10 ∷ rest)) = simp append_assoc in
    let other : lengths_text (Some n) (Some l) ++ 10 ∷ others ≡ 111 ∷ 107 ∷ 32 ∷ (decimal n ++ 32 ∷ (decimal l ++ 10 ∷ others)) = simp append_assoc in
    let first = decimal_split m n (32 ∷ (decimal k ++ 10 ∷ rest)) (32 ∷ (decimal l ++ 10 ∷ others)) a c refl refl (behind-three (sym text ∙ (e ∙ other))) in
    let second = decimal_split k l (10 ∷ rest) (10 ∷ others) b d refl refl (behind-one first.1) in
    (ap (λ n. Some n) first.0, ap (λ n. Some n) second.0, behind-one second.1)

lengths-split : (act : Act) → Told_of act
lengths-split Put = put-split
lengths-split Take = found-split
lengths-split Peek = found-split
lengths-split Swap = swap-split

-- ---- words

in_word : ℕ → Bool
in_word b = if b == 32 then false else true

word-passes : (name : List ℕ) → AllByRecursion IsInWord name → all_pass in_word name ≡ true
unfolding in_word
word-passes [] p = refl
word-passes (b ∷ name) p = both-pass (in_word b) (all_pass in_word name) (byte-passes b p.0) (word-passes name p.1)
  where
    byte-passes : (b : ℕ) → IsInWord b → in_word b ≡ true
    byte-passes b other = grind (arith, nat_tests)

act-passes : (act : Act) → all_pass in_word (act_word act) ≡ true
unfolding in_word
act-passes Put = refl
act-passes Take = refl
act-passes Peek = refl
act-passes Swap = refl

-- up to the space
word_split : (xs ys rest others : List ℕ) → all_pass in_word xs ≡ true → all_pass in_word ys ≡ true → xs ++ 32 ∷ rest ≡ ys ++ 32 ∷ others → (xs ≡ ys) × (rest ≡ others)
unfolding in_word
word_split xs ys rest others p q e = let split = run_split in_word xs ys (32 ∷ rest) (32 ∷ others) p q refl refl e in (split.0, behind-one split.1)

abbrev act_of : List ℕ → Act
act_of word = if get_or word 0 0 == 116 then Take else (if get_or word 0 0 == 115 then Swap else (if get_or word 1 0 == 117 then Put else Peek))

act_of-word : (act : Act) → act_of (act_word act) ≡ act
act_of-word Put = refl
act_of-word Take = refl
act_of-word Peek = refl
act_of-word Swap = refl

acts-known : (x y : Act) → act_word x ≡ act_word y → x ≡ y
acts-known x y e = sym (act_of-word x) ∙ (ap act_of e ∙ act_of-word y)

-- ---- an action

entry-line-text : (name : List ℕ) (x : Entry) (rest : List ℕ) → entry_text name x ++ 10 ∷ rest ≡ name ++ 32 ∷ (decimal x.place ++ 32 ∷ (act_word x.act ++ 32 ∷ (decimal x.cell ++ 32 ∷ (lengths_text x.came x.was ++ 10 ∷ rest))))
entry-line-text name x rest = parts name (decimal x.place) (act_word x.act) (decimal x.cell) (lengths_text x.came x.was) (10 ∷ rest)
  where
    parts : (a b c d e f : List ℕ) → (a ++ codes " " ++ b ++ codes " " ++ c ++ codes " " ++ d ++ codes " " ++ e) ++ f ≡ a ++ 32 ∷ (b ++ 32 ∷ (c ++ 32 ∷ (d ++ 32 ∷ (e ++ f))))
    parts a b c d e f = simp append_assoc

name-word : (sessions : List Session) → AllByRecursion (λ session. All IsInWord session.name) sessions → (p : ℕ) → all_pass in_word (name_at sessions p) ≡ true
unfolding in_word
name-word [] words p = refl
name-word (session ∷ sessions) words zero = word-passes session.name (recursion_from_All IsInWord session.name words.0)
name-word (session ∷ sessions) words (suc p) = name-word sessions words.1 p

entries-same : (x y : Entry) → x.session ≡ y.session → x.place ≡ y.place → x.act ≡ y.act → x.cell ≡ y.cell → x.came ≡ y.came → x.was ≡ y.was → x ≡ y
entries-same x y a b c d e f = λ i. record { session = a i; place = b i; act = c i; cell = d i; came = e i; was = f i }

entry_split : (sessions : List Session) (x y : Entry) (rest others : List ℕ) → AllByRecursion (λ session. All IsInWord session.name) sessions → NamesDiffer sessions → IsReadableEntry (length sessions) x → IsReadableEntry (length sessions) y
    → entry_text (name_at sessions x.session) x ++ 10 ∷ rest ≡ entry_text (name_at sessions y.session) y ++ 10 ∷ others → (x ≡ y) × (rest ≡ others)
entry_split sessions x y rest others words differ p q e =
    let texts = sym (entry-line-text (name_at sessions x.session) x rest) ∙ (e ∙ entry-line-text (name_at sessions y.session) y others) in
    let names = word_split (name_at sessions x.session) (name_at sessions y.session) (decimal x.place ++ 32 ∷ (act_word x.act ++ 32 ∷ (decimal x.cell ++ 32 ∷ (lengths_text x.came x.was ++ 10 ∷ rest))))
    (decimal y.place ++ 32 ∷ (act_word y.act ++ 32 ∷ (decimal y.cell ++ 32 ∷ (lengths_text y.came y.was ++ 10 ∷ others)))) (name-word sessions words x.session) (name-word sessions words y.session) texts in
    let places = decimal_split x.place y.place (32 ∷ (act_word x.act ++ 32 ∷ (decimal x.cell ++ 32 ∷ (lengths_text x.came x.was ++ 10 ∷ rest)))) (32 ∷ (act_word y.act ++ 32 ∷ (decimal y.cell ++ 32 ∷ (lengths_text y.came y.was ++ 10 ∷ others))))
    p.place q.place refl refl names.1 in
    let acts = word_split (act_word x.act) (act_word y.act) (decimal x.cell ++ 32 ∷ (lengths_text x.came x.was ++ 10 ∷ rest)) (decimal y.cell ++ 32 ∷ (lengths_text y.came y.was ++ 10 ∷ others)) (act-passes x.act) (act-passes y.act) (behind-one places.1) in
    let cells = decimal_split x.cell y.cell (32 ∷ (lengths_text x.came x.was ++ 10 ∷ rest)) (32 ∷ (lengths_text y.came y.was ++ 10 ∷ others)) p.cell q.cell refl refl acts.1 in
    let same : x.act ≡ y.act = acts-known x.act y.act acts.0 in
    let lengths = lengths-split x.act x.came x.was y.came y.was rest others p.came p.was q.came q.was p.lengths (subst (λ (act : Act). HasProperLengths act y.came y.was) (sym same) q.lengths) (behind-one cells.1) in
    (entries-same x y (differ x.session y.session p.session q.session names.0) places.0 same cells.0 lengths.0 lengths.1, lengths.2)

-- ---- histories

entry-first : (sessions : List Session) (x : Entry) (xs : List Entry) (rest : List ℕ) → entry_lines sessions (x ∷ xs) ++ rest ≡ entry_text (name_at sessions x.session) x ++ 10 ∷ (entry_lines sessions xs ++ rest)
entry-first sessions x xs rest = append_assoc (entry_line sessions x) (entry_lines sessions xs) rest ∙ append_assoc (entry_text (name_at sessions x.session) x) (10 ∷ []) (entry_lines sessions xs ++ rest)

entries_split : (sessions : List Session) (xs ys : List Entry) (rest others : List ℕ) → AllByRecursion (λ session. All IsInWord session.name) sessions → NamesDiffer sessions → AllByRecursion (IsReadableEntry (length sessions)) xs → AllByRecursion (IsReadableEntry (length sessions)) ys
    → length xs ≡ length ys → entry_lines sessions xs ++ rest ≡ entry_lines sessions ys ++ others → (xs ≡ ys) × (rest ≡ others)
entries_split sessions [] [] rest others words differ p q m e = (refl, e)
entries_split sessions [] (y ∷ ys) rest others words differ p q m e = absurd (omega arith)
entries_split sessions (x ∷ xs) [] rest others words differ p q m e = absurd (omega arith)
entries_split sessions (x ∷ xs) (y ∷ ys) rest others words differ p q m e =
    let first = entry_split sessions x y (entry_lines sessions xs ++ rest) (entry_lines sessions ys ++ others) words differ p.0 q.0 (sym (entry-first sessions x xs rest) ∙ (e ∙ entry-first sessions y ys others)) in
    let fewer : length xs ≡ length ys = omega arith in
    let split = entries_split sessions xs ys rest others words differ p.1 q.1 fewer first.1 in
    (ap₂ (λ entry entries. entry ∷ entries) first.0 split.0, split.1)

history-lines : (sessions : List Session) (history : List Entry) (rest : List ℕ) → history_text sessions history ++ rest ≡ codes "history " ++ (decimal (length history) ++ 10 ∷ (entry_lines sessions history ++ rest))
history-lines sessions history rest = parts (decimal (length history)) (entry_lines sessions history) rest
  where
    parts : (a b c : List ℕ) → ((codes "history " ++ a) ++ 10 ∷ []) ++ b ++ c ≡ codes "history " ++ (a ++ 10 ∷ (b ++ c))
    parts a b c = simp append_assoc

pool-text : (left pool : ℕ) → pool_line left pool ≡ codes "pool " ++ (decimal left ++ 32 ∷ (codes "of " ++ (decimal pool ++ 10 ∷ [])))
pool-text left pool = simp append_assoc

pub histories_known : (sessions : List Session) (history later : List Entry) (left rest pool : ℕ) → IsReadableHistory sessions history → IsReadableHistory sessions later → IsNumber left → IsNumber rest
    → history_text sessions history ++ pool_line left pool ≡ history_text sessions later ++ pool_line rest pool → (history ≡ later) × (left ≡ rest)
histories_known sessions history later left rest pool p q m n e =
    let texts = append_cancel_left (codes "history ") (decimal (length history) ++ 10 ∷ (entry_lines sessions history ++ pool_line left pool)) (decimal (length later) ++ 10 ∷ (entry_lines sessions later ++ pool_line rest pool))
    (sym (history-lines sessions history (pool_line left pool)) ∙ (e ∙ history-lines sessions later (pool_line rest pool))) in
    let counts = decimal_split (length history) (length later) (10 ∷ (entry_lines sessions history ++ pool_line left pool)) (10 ∷ (entry_lines sessions later ++ pool_line rest pool)) p.few q.few refl refl texts in
    let split = entries_split sessions history later (pool_line left pool) (pool_line rest pool) (recursion_from_All (λ session. All IsInWord session.name) sessions p.names) p.differ
    (recursion_from_All (IsReadableEntry (length sessions)) history p.entries) (recursion_from_All (IsReadableEntry (length sessions)) later q.entries) counts.0 (behind-one counts.1) in
    let pools = append_cancel_left (codes "pool ") (decimal left ++ 32 ∷ (codes "of " ++ (decimal pool ++ 10 ∷ []))) (decimal rest ++ 32 ∷ (codes "of " ++ (decimal pool ++ 10 ∷ []))) (sym (pool-text left pool) ∙ (split.1 ∙ pool-text rest pool)) in
    (split.0, (decimal_split left rest (32 ∷ (codes "of " ++ (decimal pool ++ 10 ∷ []))) (32 ∷ (codes "of " ++ (decimal pool ++ 10 ∷ []))) m n refl refl pools).0)
