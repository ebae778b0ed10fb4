-- The words of a line: cut apart and joined again.
use Rattle.std.proofs.Common.{◌≡◌, ℕ, ◌-◌, ◌<◌, Bool, true, false, cond, ltb, leb, eqb, List, [], ◌∷◌, ◌++◌, length, Option, Some, None, Result, Ok, Err, refl, sym, ap, ◌∙◌, subst, arith, inl, inr}
use Rattle.std.specs.Prelude.{◌&&◌, ◌⊎◌, is_some, is_none}
use Rattle.std.specs.List.{list_all}
use Rattle.std.proofs.lemmas.Bool.{eqb-true, ne_eqb, and_parts, and_from, cond_both}
use Rattle.std.proofs.lemmas.Bool.Decides.{nat_tests}
use Rattle.std.proofs.lemmas.List.Folds.{list_all-append}
use Rattle.script_words.specs.declared.fault.Cause.{Cause}
use Rattle.script_words.specs.declared.fault.Cause.TheVariants as causes
use Rattle.plain_cord.specs.declared.script.Text.{Text}
use Rattle.script_words.specs.Reading.{◌>>=◌}
use Rattle.script_words.specs.Words.{cut, word_at, last_word_at, part_at, is_letter, is_digit, is_name_byte, is_shown, names, name_at}
use Rattle.script_words.specs.Spelling.{SpellsNumber, IsHex, SpellsByte, SpellsBytes, SpellsTimes, SpellsText, IsName, joined}
use Rattle.script_words.proofs.Results.{bind_ok, if_ok, unless_ok, ok_is}

-- ---- cutting and joining

joined_cons : (b : ℕ) (w : List ℕ) (r : Option (List ℕ)) → joined (b ∷ w) r ≡ b ∷ joined w r
joined_cons b w None = refl
joined_cons b w (Some rest) = refl

pub cut_found : (bytes : List ℕ) → bytes ≡ joined (cut 32 bytes).0 (cut 32 bytes).1
cut_found [] = refl
cut_found (b ∷ bs) =
    cond_both {A = List ℕ × Option (List ℕ)} (eqb b 32) ([], Some bs) (b ∷ (cut 32 bs).0, (cut 32 bs).1) (λ p. b ∷ bs ≡ joined p.0 p.1)
    (λ e. ap (λ (k : ℕ). k ∷ bs) (eqb-true b 32 e))
    (λ _. ap (λ (l : List ℕ). b ∷ l) (cut_found bs) ∙ sym (joined_cons b (cut 32 bs).0 (cut 32 bs).1))

-- a word has no space
abbrev pub IsFree : List ℕ → Type 0
IsFree [] = Unit {0}
IsFree (x ∷ xs) = (eqb x 32 ≡ false) × IsFree xs

pub cut_again : (w : List ℕ) (r : Option (List ℕ)) → IsFree w → cut 32 (joined w r) ≡ (w, r)
cut_again [] None h = refl
cut_again [] (Some rest) h = refl
cut_again (x ∷ xs) r h =
    ap (cut 32) (joined_cons x xs r)
    ∙ ap (λ (t : Bool). let p : List ℕ × Option (List ℕ) = cond t ([], Some (joined xs r)) (x ∷ (cut 32 (joined xs r)).0, (cut 32 (joined xs r)).1) in p) h.0
    ∙ ap (λ (p : List ℕ × Option (List ℕ)). (x ∷ p.0, p.1)) (cut_again xs r h.1)

abbrev cut_is : List ℕ × Option (List ℕ) → Result (List ℕ × Option (List ℕ)) Cause
cut_is p = cond (eqb (length p.0) 0) (Err causes.Words) (Ok p)

pub word_again : (w : List ℕ) (r : Option (List ℕ)) → IsFree w → 0 < length w → word_at (Some (joined w r)) ≡ Ok (w, r)
word_again w r free long =
    ap cut_is (cut_again w r free) ∙ ap (λ (t : Bool). let x : Result (List ℕ × Option (List ℕ)) Cause = cond t (Err causes.Words) (Ok (w, r)) in x) (ne_eqb (length w) 0 (λ e. omega arith))

pub last_word_again : (w : List ℕ) → IsFree w → 0 < length w → last_word_at (Some w) ≡ Ok w
last_word_again w free long = ap (λ (x : Result (List ℕ × Option (List ℕ)) Cause). x >>= λ word. cond (is_none word.1) (Ok word.0) (Err causes.Words)) (word_again w None free long)

pub part_again : (p : List ℕ) → 0 < length p → part_at (Some p) ≡ Ok p
part_again p long = ap (λ (t : Bool). let x : Result (List ℕ) Cause = cond t (Err causes.Words) (Ok p) in x) (ne_eqb (length p) 0 (λ e. omega arith))

pub word_found : (o : Option (List ℕ)) (x : List ℕ × Option (List ℕ)) → word_at o ≡ Ok x → o ≡ Some (joined x.0 x.1)
word_found None x e = absurd cc
word_found (Some rest) x e =
    let a = unless_ok (eqb (length (cut 32 rest).0) 0) causes.Words (Ok (cut 32 rest)) x e in
    subst (λ (p : List ℕ × Option (List ℕ)). Some rest ≡ Some (joined p.0 p.1)) (ok_is (cut 32 rest) x a.1) (ap (λ (l : List ℕ). Some l) (cut_found rest))

pub none_is : {A : Type 0} (o : Option A) → is_none o ≡ true → o ≡ None
none_is None e = refl
none_is (Some x) e = absurd cc

pub last_word_found : (o : Option (List ℕ)) (w : List ℕ) → last_word_at o ≡ Ok w → o ≡ Some w
last_word_found o w e =
    let a = bind_ok (word_at o) (λ word. cond (is_none word.1) (Ok word.0) (Err causes.Words)) w e in
    let b = if_ok (is_none a.0.1) causes.Words (Ok a.0.0) w a.2 in
    word_found o a.0 a.1 ∙ ap (λ (r : Option (List ℕ)). Some (joined a.0.0 r)) (none_is a.0.1 b.0) ∙ ap (λ (l : List ℕ). Some l) (ok_is a.0.0 w b.1)

pub part_found : (o : Option (List ℕ)) (p : List ℕ) → part_at o ≡ Ok p → o ≡ Some p
part_found None p e = absurd cc
part_found (Some rest) p e =
    let a = unless_ok (eqb (length rest) 0) causes.Words (Ok rest) p e in
    ap (λ (l : List ℕ). Some l) (ok_is rest p a.1)

-- ---- names

pub name_found : (w a : List ℕ) → name_at w ≡ Ok a → (w ≡ a) × IsName a
name_found w a e =
    let g = if_ok (names w) causes.Name (Ok w) a e in
    let same : w ≡ a = ok_is w a g.1 in
    (same, subst IsName same g.0)

pub name_again : (a : List ℕ) → IsName a → name_at a ≡ Ok a
name_again a h = ap (λ (t : Bool). let x : Result (List ℕ) Cause = cond t (Ok a) (Err causes.Name) in x) h

pub all_weaker : (p q : ℕ → Bool) → ((c : ℕ) → p c ≡ true → q c ≡ true) → (xs : List ℕ) → list_all p xs ≡ true → list_all q xs ≡ true
all_weaker p q h [] e = refl
all_weaker p q h (x ∷ xs) e = let a = and_parts (p x) (list_all p xs) e in and_from (q x) (list_all q xs) (h x a.0) (all_weaker p q h xs a.1)

pub free_all : (p : ℕ → Bool) → ((c : ℕ) → p c ≡ true → eqb c 32 ≡ false) → (xs : List ℕ) → list_all p xs ≡ true → IsFree xs
free_all p h [] e = tt
free_all p h (x ∷ xs) e = let a = and_parts (p x) (list_all p xs) e in (h x a.0, free_all p h xs a.1)

letter_name : (c : ℕ) → is_letter c ≡ true → is_name_byte c ≡ true
letter_name c e = grind (arith, nat_tests)

pub name_byte_free : (c : ℕ) → is_name_byte c ≡ true → eqb c 32 ≡ false
name_byte_free c e = grind (arith, nat_tests)

pub name_byte_shown : (c : ℕ) → is_name_byte c ≡ true → is_shown c ≡ true
name_byte_shown c e = grind (arith, nat_tests)

digit_free : (c : ℕ) → is_digit c ≡ true → eqb c 32 ≡ false
digit_free c e = grind (arith, nat_tests)

digit_shown : (c : ℕ) → is_digit c ≡ true → is_shown c ≡ true
digit_shown c e = grind (arith, nat_tests)

name_bytes : (a : List ℕ) → IsName a → list_all is_name_byte a ≡ true
name_bytes [] h = absurd cc
name_bytes (c ∷ cs) h =
    let p = and_parts (is_letter c && list_all is_name_byte cs) (ltb (length cs) 16) h in
    let q = and_parts (is_letter c) (list_all is_name_byte cs) p.0 in
    and_from (is_name_byte c) (list_all is_name_byte cs) (letter_name c q.0) q.1

pub name_long : (a : List ℕ) → IsName a → 0 < length a
name_long [] h = absurd cc
name_long (c ∷ cs) h = omega arith

pub name_free : (a : List ℕ) → IsName a → IsFree a
name_free a h = free_all is_name_byte name_byte_free a (name_bytes a h)

pub name_shown : (a : List ℕ) → IsName a → list_all is_shown a ≡ true
name_shown a h = all_weaker is_name_byte is_shown name_byte_shown a (name_bytes a h)

-- ---- numbers and texts in a line

pub number_free : (word : List ℕ) (n : ℕ) → SpellsNumber word n → IsFree word
number_free word n h = free_all is_digit digit_free word h.digits

pub number_long : (word : List ℕ) (n : ℕ) → SpellsNumber word n → 0 < length word
number_long [] n h = absurd h.lean
number_long (c ∷ cs) n h = omega arith

pub number_shown : (word : List ℕ) (n : ℕ) → SpellsNumber word n → list_all is_shown word ≡ true
number_shown word n h = all_weaker is_digit is_shown digit_shown word h.digits

hex_shown : (c : ℕ) → IsHex c → is_shown c ≡ true
hex_shown c h = by_digit (is_digit c) refl h
  where
    by_letter : (t : Bool) → (leb 97 c && leb c 102) ≡ t → is_some (cond t (Some (c - 87)) None) ≡ true → is_shown c ≡ true
    by_letter true is k = grind (arith, nat_tests)
    by_letter false is k = absurd cc

    by_digit : (t : Bool) → is_digit c ≡ t → is_some (cond t (Some (c - 48)) (cond (leb 97 c && leb c 102) (Some (c - 87)) None)) ≡ true → is_shown c ≡ true
    by_digit true is k = digit_shown c is
    by_digit false is k = by_letter (leb 97 c && leb c 102) refl k

shown_both : (xs ys : List ℕ) → list_all is_shown xs ≡ true → list_all is_shown ys ≡ true → list_all is_shown (xs ++ ys) ≡ true
shown_both xs ys h k = list_all-append is_shown xs ys ∙ and_from (list_all is_shown xs) (list_all is_shown ys) h k

escaped_shown : (b : ℕ) → (b ≡ 34) ⊎ (b ≡ 92) → list_all is_shown (92 ∷ b ∷ []) ≡ true
escaped_shown b (inl e) = rw e refl
escaped_shown b (inr e) = rw e refl

byte_shown : (p : List ℕ) (b : ℕ) → SpellsByte p b → list_all is_shown p ≡ true
byte_shown p b (inl h) = ap (list_all is_shown) h.0 ∙ and_from (is_shown b) true h.1 refl
byte_shown p b (inr (inl h)) = ap (list_all is_shown) h.0 ∙ escaped_shown b h.1
byte_shown p b (inr (inr (inl h))) = ap (list_all is_shown) h.0
byte_shown p b (inr (inr (inr h))) = ap (list_all is_shown) h.2 ∙ and_from (is_shown h.0) _ (hex_shown h.0 h.3) (and_from (is_shown h.1) true (hex_shown h.1 h.4) refl)

bytes_shown : (inner bs : List ℕ) → SpellsBytes inner bs → list_all is_shown inner ≡ true
bytes_shown inner [] h = ap (list_all is_shown) h
bytes_shown inner (b ∷ bs) h = ap (list_all is_shown) h.2 ∙ shown_both h.0 h.1 (byte_shown h.0 b h.3) (bytes_shown h.1 bs h.4)

times_shown : (tail : List ℕ) (n : ℕ) → SpellsTimes tail n → list_all is_shown tail ≡ true
times_shown tail n (inl h) = ap (list_all is_shown) h.0
times_shown tail n (inr h) = ap (list_all is_shown) h.1 ∙ number_shown h.0 n h.2

pub text_shown : (least : ℕ) (part : List ℕ) (t : Text) → SpellsText least part t → list_all is_shown part ≡ true
text_shown least part t h = ap (list_all is_shown) h.quoted ∙ shown_both h.inner (34 ∷ h.tail) (bytes_shown h.inner t.piece h.bytes) (times_shown h.tail t.times h.times)

pub text_long : (least : ℕ) (part : List ℕ) (t : Text) → SpellsText least part t → 0 < length part
text_long least part t h = omega (arith, ap length h.quoted)

pub joined_shown : (w : List ℕ) (rest : List ℕ) → list_all is_shown w ≡ true → list_all is_shown rest ≡ true → list_all is_shown (w ++ 32 ∷ rest) ≡ true
joined_shown w rest h k = shown_both w (32 ∷ rest) h k
