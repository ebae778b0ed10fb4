-- A text beside a piece of what comes next: the piece decides, or else what is left of both.
use Rattle.std.proofs.Common.{ℕ, ◌≡◌, ◌-◌, ◌+◌, ◌≤◌, List, length, take, drop, refl, sym, ap, subst, ◌∙◌, arith}
use Rattle.std.specs.Ordering.{nat_cmp, ordering_then}
use Rattle.std.specs.Cmp.Lexicographic.{slice_cmp}
use Rattle.std.specs.declared.cmp.Ordering.{Ordering}
use Rattle.std.specs.declared.cmp.Ordering.TheVariants.{Equal}
use Rattle.std.proofs.lemmas.List.{length-drop}
use Rattle.chunk_reader.specs.Readings.{Reading, left, passed}
use Rattle.cord_query.specs.Readers.{SameText}
use Rattle.cord_query.proofs.OrderLaws.{cmp-step, then-first}
use Rattle.cord_query.proofs.PieceLaws.{left-passed}

pub passed-passed : (j k : ℕ) (r : Reading) → passed j (passed k r) ≡ passed (k + j) r
passed-passed j k r = ap (λ (n : ℕ). record r { at = n }) (omega arith)

pub same-passed : (k : ℕ) (r : Reading) → SameText r (passed k r)
same-passed k r = record { tree = refl; bytes = refl }

pub same-through : (a b c : Reading) → SameText a b → SameText b c → SameText a c
same-through a b c s t = record { tree = t.tree ∙ s.tree; bytes = t.bytes ∙ s.bytes }

module _ (r new : Reading) (rest piece front back : List ℕ) (few : length piece ≤ length rest) (is : piece ≡ take (length piece) (left r)) (n : new ≡ passed (length piece) r) (f : front ≡ take (length piece) rest) (b : back ≡ drop (length piece) rest) where
  long : length back ≡ length rest - length piece
  long = ap length b ∙ length-drop (length piece) rest

  pub step-same : SameText r new
  step-same = subst (SameText r) (sym n) (same-passed (length piece) r)

  pub step-ends : passed (length back) new ≡ passed (length rest) r
  step-ends =
      ap (passed (length back)) n
      ∙ passed-passed (length back) (length piece) r
      ∙ ap (λ (k : ℕ). passed k r) (omega (arith, long, few))

  pub step-order : slice_cmp nat_cmp rest (take (length rest) (left r)) ≡ ordering_then (slice_cmp nat_cmp front piece) (slice_cmp nat_cmp back (take (length back) (left new)))
  step-order =
      cmp-step rest (left r) piece few is
      ∙ ap (λ t. ordering_then (slice_cmp nat_cmp t piece) (slice_cmp nat_cmp (drop (length piece) rest) (take (length rest - length piece) (drop (length piece) (left r))))) (sym f)
      ∙ ap (λ t. ordering_then (slice_cmp nat_cmp front piece) (slice_cmp nat_cmp t (take (length rest - length piece) (drop (length piece) (left r))))) (sym b)
      ∙ ap (λ (k : ℕ). ordering_then (slice_cmp nat_cmp front piece) (slice_cmp nat_cmp back (take k (drop (length piece) (left r))))) (sym long)
      ∙ ap (λ t. ordering_then (slice_cmp nat_cmp front piece) (slice_cmp nat_cmp back (take (length back) t))) (sym (left-passed (length piece) r) ∙ ap left (sym n))

  -- the piece decides
  pub step-apart : (o : Ordering) → o ≡ slice_cmp nat_cmp front piece → (o ≡ Equal → ⊥) → o ≡ slice_cmp nat_cmp rest (take (length rest) (left r))
  step-apart o is_o apart = is_o ∙ sym (step-order ∙ then-first (slice_cmp nat_cmp front piece) (slice_cmp nat_cmp back (take (length back) (left new))) (λ tied. apart (is_o ∙ tied)))

  -- it is the same
  pub step-tied : slice_cmp nat_cmp front piece ≡ Equal → slice_cmp nat_cmp back (take (length back) (left new)) ≡ slice_cmp nat_cmp rest (take (length rest) (left r))
  step-tied tied = sym (step-order ∙ ap (λ (o : Ordering). ordering_then o (slice_cmp nat_cmp back (take (length back) (left new)))) tied)

-- a reading that was sent to a place, and what it became
pub same-sought : (place : ℕ) (r sought new : Reading) → sought ≡ record r { at = place } → SameText sought new → SameText r new
same-sought place r sought new is same = record { tree = same.tree ∙ ap (λ (s : Reading). s.tree) is; bytes = same.bytes ∙ ap (λ (s : Reading). s.bytes) is }
