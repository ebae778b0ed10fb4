-- A number that is read is spelled so, and one that is spelled so is read.
use Rattle.std.proofs.Common.{◌≡◌, ℕ, ◌+◌, ◌-◌, ◌*◌, ◌^◌, ◌<◌, ◌≤◌, Bool, true, false, cond, ltb, leb, eqb, List, [], ◌∷◌, length, Option, Some, None, Ok, Err, refl, sym, ap, ◌∙◌, subst, arith}
use Rattle.std.specs.Prelude.{◌&&◌}
use Rattle.std.specs.List.{list_all}
use Rattle.std.proofs.lemmas.Bool.{ltb-true, lt-ltb, leb-true, le-leb, eq-eqb, ne_eqb, and_parts, and_left, and_right, and_from, both_ways}
use Rattle.script_words.specs.declared.fault.Cause.TheVariants as causes
use Rattle.script_words.specs.Words.{is_digit}
use Rattle.script_words.specs.Numbers.{digits_from, small, decimal_at, in_range, number_at}
use Rattle.script_words.specs.Spelling.{number_after, HasNoNeedlessZero, SpellsNumber}
use Rattle.script_words.proofs.Results.{if_ok, ok_is, if_some, unless_some}

digits_all : (n : ℕ) (cs : List ℕ) → digits_from n cs ≡ cond (list_all is_digit cs) (Some (number_after n cs)) None
digits_all n [] = refl
digits_all n (c ∷ cs) =
    elim (is_digit c) as (λ b. cond b (digits_from (10 * n + (c - 48)) cs) None ≡ cond (b && list_all is_digit cs) (Some (number_after (10 * n + (c - 48)) cs)) None) [
      | true ↦ digits_all (10 * n + (c - 48)) cs
      | false ↦ refl
    ]

small_some : (o : Option ℕ) (n : ℕ) → small o ≡ Some n → (o ≡ Some n) × (n < 2 ^ 64)
small_some None n e = absurd cc
small_some (Some m) n e =
    let p = if_some (ltb m (2 ^ 64)) m n e in
    (ap (λ (k : ℕ). Some k) p.1, subst (λ (k : ℕ). k < 2 ^ 64) p.1 (ltb-true m (2 ^ 64) p.0))

lean_from : (c : ℕ) (cs : List ℕ) → (eqb c 48 && ltb 0 (length cs)) ≡ false → HasNoNeedlessZero (c ∷ cs)
lean_from c [] e = tt
lean_from c (d ∷ ds) e = λ is. both_ways _ e (and_from (eqb c 48) (ltb 0 (length (d ∷ ds))) (eq-eqb c 48 is) (lt-ltb 0 _ (omega arith)))

lean_again : (c : ℕ) (cs : List ℕ) → HasNoNeedlessZero (c ∷ cs) → (eqb c 48 && ltb 0 (length cs)) ≡ false
lean_again c [] h = and_right (eqb c 48) (ltb 0 0) refl
lean_again c (d ∷ ds) h = and_left (eqb c 48) (ltb 0 (length (d ∷ ds))) (ne_eqb c 48 h)

pub decimal_found : (word : List ℕ) (n : ℕ) → decimal_at word ≡ Some n → SpellsNumber word n
decimal_found [] n e = absurd cc
decimal_found (c ∷ cs) n e =
    let a = unless_some (eqb c 48 && ltb 0 (length cs)) (small (digits_from 0 (c ∷ cs))) n e in
    let b = small_some (digits_from 0 (c ∷ cs)) n a.1 in
    let d = if_some (list_all is_digit (c ∷ cs)) (number_after 0 (c ∷ cs)) n (sym (digits_all 0 (c ∷ cs)) ∙ b.0) in
    record { digits = d.0; lean = lean_from c cs a.0; stands = d.1; small = b.1 }

pub decimal_again : (word : List ℕ) (n : ℕ) → SpellsNumber word n → decimal_at word ≡ Some n
decimal_again [] n h = absurd h.lean
decimal_again (c ∷ cs) n h =
    let read : digits_from 0 (c ∷ cs) ≡ Some n = digits_all 0 (c ∷ cs) ∙ rw (h.digits, h.stands) refl in
    let within : ltb n (2 ^ 64) ≡ true = lt-ltb n (2 ^ 64) h.small in
    ap (λ (b : Bool). cond b None (small (digits_from 0 (c ∷ cs)))) (lean_again c cs h.lean) ∙ ap small read ∙ ap (λ (b : Bool). cond b (Some n) None) within

pub number_found : (least most : ℕ) (word : List ℕ) (n : ℕ) → number_at least most word ≡ Ok n → SpellsNumber word n × (least ≤ n) × (n ≤ most)
number_found least most word n e = by_option (decimal_at word) refl e
  where
    by_option : (o : Option ℕ) → decimal_at word ≡ o → in_range least most o ≡ Ok n → SpellsNumber word n × (least ≤ n) × (n ≤ most)
    by_option None is f = absurd cc
    by_option (Some m) is f =
        let a = if_ok (leb least m && leb m most) causes.Number (Ok m) n f in
        let p = and_parts (leb least m) (leb m most) a.0 in
        let same : m ≡ n = ok_is m n a.1 in
        subst (λ (k : ℕ). SpellsNumber word k × (least ≤ k) × (k ≤ most)) same (decimal_found word m is, leb-true least m p.0, leb-true m most p.1)

pub number_again : (least most : ℕ) (word : List ℕ) (n : ℕ) → SpellsNumber word n → least ≤ n → n ≤ most → number_at least most word ≡ Ok n
number_again least most word n h low high =
    ap (in_range least most) (decimal_again word n h) ∙ ap (λ (b : Bool). cond b (Ok n) (Err causes.Number)) (and_from (leb least n) (leb n most) (le-leb least n low) (le-leb n most high))
