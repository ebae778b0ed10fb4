-- What a search for a byte tells of a cut.
use Rattle.std.proofs.Common.{◌≡◌, ℕ, zero, suc, ◌+◌, ◌-◌, ◌<◌, true, false, eqb, List, [], ◌∷◌, length, Option, Some, None, refl, sym, ap, ◌∙◌, take, drop, arith}
use Rattle.std.specs.Prelude.{slice_index}
use Rattle.std.proofs.lemmas.Bool.{false_from_ne_true}
use Rattle.std.proofs.lemmas.List.{take_rest}
use Rattle.memchr.specs.Find.{IsFirstByte, is_byte}
use Rattle.script_words.specs.Words.{cut}

-- ---- a cut is at the first separator

abbrev Cut : Type 0
Cut = List ℕ × Option (List ℕ)

cut_past : (c b : ℕ) (bs : List ℕ) (p : Cut) → eqb b c ≡ false → cut c bs ≡ p → cut c (b ∷ bs) ≡ (b ∷ p.0, p.1)
cut_past c b bs p other e = rw other (ap (λ (q : Cut). let r : Cut = (b ∷ q.0, q.1) in r) e)

cut_whole : (c : ℕ) (bs : List ℕ) → ((i : ℕ) → i < length bs → ¬ (is_byte c (slice_index bs i) ≡ true)) → cut c bs ≡ (bs, None)
cut_whole c [] none = refl
cut_whole c (b ∷ bs) none = cut_past c b bs (bs, None) (false_from_ne_true (eqb b c) (none 0 (omega arith))) (cut_whole c bs (λ i lt. none (suc i) (omega arith)))

cut_at : (c : ℕ) (bs : List ℕ) (k : ℕ) → k < length bs → ((i : ℕ) → i < k → ¬ (is_byte c (slice_index bs i) ≡ true)) → is_byte c (slice_index bs k) ≡ true → cut c bs ≡ (take k bs, Some (drop (suc k) bs))
cut_at c [] k lt none here = absurd (omega arith)
cut_at c (b ∷ bs) zero lt none here = rw here refl
cut_at c (b ∷ bs) (suc k) lt none here =
    cut_past c b bs (take k bs, Some (drop (suc k) bs)) (false_from_ne_true (eqb b c) (none 0 (omega arith))) (cut_at c bs k (omega arith) (λ i le. none (suc i) (omega arith)) here)

pub cut_nowhere : (c : ℕ) (bs : List ℕ) → IsFirstByte (is_byte c) bs None → (bs, None) ≡ cut c bs
cut_nowhere c bs h = sym (cut_whole c bs (λ i lt. h i (omega arith) lt))

pub cut_first : (c : ℕ) (bs : List ℕ) (k : ℕ) → IsFirstByte (is_byte c) bs (Some k) → (take k bs, Some (take (length bs - (k + 1)) (drop (k + 1) bs))) ≡ cut c bs
cut_first c bs k h =
    let next : k + 1 ≡ suc k = omega arith in
    ap (λ (l : List ℕ). let p : Cut = (take k bs, Some l) in p) (take_rest bs (k + 1) ∙ ap (λ (n : ℕ). drop n bs) next)
    ∙ sym (cut_at c bs k h.0.high (λ i lt. h.0.before i (omega arith) lt) h.1)
