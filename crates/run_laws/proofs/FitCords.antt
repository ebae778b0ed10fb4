-- Cords of bytes that pass a test and are not too many, with a sum of 32 bits.
use Rattle.std.proofs.Common.{◌≡◌, sym, ℕ, zero, suc, ◌*◌, ◌<◌, ◌≤◌, ◌^◌, List, [], ◌∷◌, length, take, drop, replicate, arith, Option, Some, None, IfSome, length-append, option_map, mul-suc, mul-zero}
use Rattle.std.specs.Prelude.{nat_eq, ◌==◌, slice_get, slice_set}
use Rattle.std.specs.List.{All, AllByRecursion, starts_with}
use Rattle.std.proofs.lemmas.Bool.{cond_both}
use Rattle.std.proofs.lemmas.List.Elements.{recursion_from_All}
use Rattle.plain_cord.specs.declared.limits.TheConstants.{MOST_BYTES}
use Rattle.plain_cord.specs.declared.script.Text.{Text}
use Rattle.plain_cord.specs.Texts.{repeated, text_bytes, place_of}
use Rattle.plain_cord.specs.States.{CordState, Environment, plain, empty_cord, changed, with_name}
use Rattle.plain_cord.specs.Effects.{Cells, held_in}
use Rattle.report_text.proofs.RunLines.{all-both}
use Rattle.script_words.specs.Forms.{IsShort}

-- ---- parts of byte strings

module _ (P : ℕ → Type 0) where
  pub all-take : (n : ℕ) (xs : List ℕ) → AllByRecursion P xs → AllByRecursion P (take n xs)
  all-take zero xs h = tt
  all-take (suc n) [] h = tt
  all-take (suc n) (x ∷ xs) h = (h.0, all-take n xs h.1)

  pub all-drop : (n : ℕ) (xs : List ℕ) → AllByRecursion P xs → AllByRecursion P (drop n xs)
  all-drop zero xs h = h
  all-drop (suc n) [] h = tt
  all-drop (suc n) (x ∷ xs) h = all-drop n xs h.1

  pub all-at : (xs : List ℕ) (i : ℕ) → AllByRecursion P xs → IfSome (slice_get xs i) P
  all-at [] i h = tt
  all-at (x ∷ xs) zero h = h.0
  all-at (x ∷ xs) (suc i) h = all-at xs i h.1

  all-repeated : (piece : List ℕ) (times : ℕ) → AllByRecursion P piece → AllByRecursion P (repeated piece times)
  all-repeated piece zero h = tt
  all-repeated piece (suc times) h = all-both P piece (repeated piece times) h (all-repeated piece times h)

length-repeated : (piece : List ℕ) (times : ℕ) → length (repeated piece times) ≡ length piece * times
length-repeated piece zero = sym (mul-zero (length piece))
length-repeated piece (suc times) = omega (arith, length-append piece (repeated piece times), length-repeated piece times, mul-suc (length piece) times)

pub text-short : (least : ℕ) (text : Text) → IsShort least text → length (text_bytes text) ≤ 1048576
text-short least text h = omega (arith, length-repeated text.piece text.times, h.1)

-- a place is one in the bytes, or at their end
pub place-within : (bytes needle : List ℕ) → IfSome (place_of bytes needle) (λ n. n ≤ length bytes)
place-within [] needle = cond_both (starts_with nat_eq [] needle) (Some 0) None (λ o. IfSome o (λ n. n ≤ length {A = ℕ} [])) (λ _. omega arith) (λ _. tt)
place-within (b ∷ bytes) needle = cond_both (starts_with nat_eq (b ∷ bytes) needle) (Some 0) (option_map (λ n. suc n) (place_of bytes needle)) (λ o. IfSome o (λ n. n ≤ length (b ∷ bytes))) (λ _. omega arith) (λ _. next (place_of bytes needle) (place-within bytes needle))
  where
    next : (o : Option ℕ) → IfSome o (λ n. n ≤ length bytes) → IfSome (option_map (λ n. suc n) o) (λ n. n ≤ length (b ∷ bytes))
    next None h = tt
    next (Some n) h = omega arith

-- ---- cords, names and cells

pub record IsFitCord (P : ℕ → Type 0) (cord : CordState) : Type 0 where
  pub bytes : AllByRecursion P cord.bytes
  pub size : length cord.bytes ≤ MOST_BYTES
  pub sum : IfSome cord.sum (λ value. value < 2 ^ 32)

module _ (P : ℕ → Type 0) where
  pub text-bytes : (text : Text) → All P text.piece → AllByRecursion P (text_bytes text)
  text-bytes text h = all-repeated P text.piece text.times (recursion_from_All P text.piece h)

  pub fit-plain : (bytes : List ℕ) → AllByRecursion P bytes → length bytes ≤ MOST_BYTES → IsFitCord P (plain bytes)
  fit-plain bytes all few = record { bytes = all; size = few; sum = tt }

  pub fit-empty : IsFitCord P empty_cord
  fit-empty = fit-plain [] tt (omega arith)

  pub fit-changed : (cord : CordState) (bytes : List ℕ) → IsFitCord P cord → AllByRecursion P bytes → length bytes ≤ MOST_BYTES → IsFitCord P (changed cord bytes)
  fit-changed cord bytes fit all few = cond_both (length bytes == length cord.bytes) cord (plain bytes) (IsFitCord P) (λ _. fit) (λ _. fit-plain bytes all few)

  abbrev pub AreFitNames : Environment → Type 0
  AreFitNames names = (name : List ℕ) → IfSome (names name) (IsFitCord P)

  pub fit-set : (names : Environment) (a : List ℕ) (cord : CordState) → AreFitNames names → IsFitCord P cord → AreFitNames (with_name names a cord)
  fit-set names a cord fit new = λ name. cond_both _ (Some cord) (names name) (λ o. IfSome o (IsFitCord P)) (λ _. new) (λ _. fit name)

  abbrev pub AreFitCells : Cells → Type 0
  AreFitCells cells = AllByRecursion (λ o. IfSome o (IsFitCord P)) cells

  pub fit-held : (cells : Cells) (cell : ℕ) → AreFitCells cells → IfSome (held_in cells cell) (IsFitCord P)
  fit-held [] cell h = tt
  fit-held (o ∷ cells) zero h = h.0
  fit-held (o ∷ cells) (suc cell) h = fit-held cells cell h.1

  pub fit-cell : (cells : Cells) (cell : ℕ) (o : Option CordState) → AreFitCells cells → IfSome o (IsFitCord P) → AreFitCells (slice_set cells cell o)
  fit-cell [] cell o h new = tt
  fit-cell (x ∷ cells) zero o h new = (new, h.1)
  fit-cell (x ∷ cells) (suc cell) o h new = (h.0, fit-cell cells cell o h.1 new)

  pub fit-none : (n : ℕ) → AreFitCells (replicate n None)
  fit-none zero = tt
  fit-none (suc n) = (tt, fit-none n)
