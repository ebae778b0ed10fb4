-- A piece that stands once more, and a single byte that stands several times.
use Rattle.std.proofs.Common.{◌≡◌, ◌∙◌, sym, ap, refl, ℕ, ◌+◌, ◌*◌, ◌<◌, ◌≤◌, List, [], ◌∷◌, ◌++◌, zero, suc, append-nil, mul-le-mul_left, arith}
use Rattle.std.specs.Prelude.{replicate}
use Rattle.std.specs.List.{concat}
use Rattle.std.proofs.Math.Nat.{mul-suc}
use Rattle.std.proofs.lemmas.List.{replicate_more}
use Rattle.std.proofs.lemmas.List.Folds.{concat-append}
use Rattle.plain_cord.specs.Texts.{repeated}

pub repeated-next : (piece : List ℕ) (n : ℕ) → repeated piece n ++ piece ≡ repeated piece (n + 1)
repeated-next piece n = ap (λ end. repeated piece n ++ end) (sym (append-nil piece)) ∙ (sym (concat-append (replicate n piece) (piece ∷ [])) ∙ ap concat (replicate_more n piece))

pub repeated-byte : (b n : ℕ) → repeated (b ∷ []) n ≡ replicate n b
repeated-byte b zero = refl
repeated-byte b (suc n) = ap (λ bytes. b ∷ bytes) (repeated-byte b n)

-- one more piece fits where not all stand yet
pub next-fits : (p n times : ℕ) → n < times → p * n + p ≤ p * times
next-fits p n times below = rw (← mul-suc p n) (mul-le-mul_left p (omega arith))
