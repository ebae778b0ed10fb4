-- Where a needle stands in a chunk, and in the whole.
use Rattle.std.proofs.Common.{ℕ, ◌≡◌, ◌-◌, ◌+◌, ◌<◌, ◌≤◌, List, length, take, drop, sym, ap, subst, ◌∙◌, arith, Option}
use Rattle.std.specs.Prelude.{slice_index}
use Rattle.memchr.specs.Find.{OccursAt, Nowhere, NoneBefore, IsFirst}
use Rattle.cord_query.proofs.AcrossLaws.{byte-in, first-more}

module _ (hay needle chunk : List ℕ) (start : ℕ) (is : chunk ≡ take (length chunk) (drop start hay)) (ends : start + length chunk ≤ length hay) where
  pub occurs-out : (k : ℕ) → OccursAt chunk needle k → OccursAt hay needle (start + k)
  occurs-out k occurs = record {
    fits = omega (arith, occurs.fits, ends);
    reads = λ j lt. ap (slice_index hay) (omega arith) ∙ sym (byte-in hay needle chunk start is (k + j) (omega (arith, occurs.fits, lt))) ∙ occurs.reads j lt;
  }

  pub occurs-in : (k : ℕ) → k + length needle ≤ length chunk → OccursAt hay needle (start + k) → OccursAt chunk needle k
  occurs-in k fits occurs = record {
    fits = fits;
    reads = λ j lt. byte-in hay needle chunk start is (k + j) (omega (arith, fits, lt)) ∙ ap (slice_index hay) (omega arith) ∙ occurs.reads j lt;
  }

  -- at a place that isn't behind the last one that fits
  pub not-in : (n : ℕ) → Nowhere (OccursAt chunk needle) 0 n → (k : ℕ) → start ≤ k → k < start + n → k + length needle ≤ start + length chunk → ¬ OccursAt hay needle k
  not-in n none k low high fits occurs =
      let j = k - start in
      let at : k ≡ start + j = omega (arith, low) in
      none j (omega arith) (omega (arith, low, high)) (occurs-in j (omega (arith, low, fits)) (subst (OccursAt hay needle) at occurs))

  module _ (some : 0 < length needle) where
    pub first-in : (k : ℕ) → NoneBefore (OccursAt chunk needle) 0 (length chunk + 1) k → OccursAt chunk needle k → NoneBefore (OccursAt hay needle) start (start + length chunk) (start + k)
    first-in k found occurs = record {
      low = omega arith;
      high = omega (arith, occurs.fits, some);
      before = λ n low high. not-in k found.before n low high (omega (arith, high, occurs.fits));
    }

    -- nowhere in the chunk, so only where it goes on behind it
    pub first-behind : (r : Option ℕ) → Nowhere (OccursAt chunk needle) 0 (length chunk + 1)
        → IsFirst (OccursAt hay needle) (start + (length chunk + 1 - length needle)) (start + length chunk) r → IsFirst (OccursAt hay needle) start (start + length chunk) r
    first-behind r none first =
        first-more (OccursAt hay needle) start (start + (length chunk + 1 - length needle)) (start + length chunk) r (omega arith)
        (λ n low high. not-in (length chunk + 1) none n low (omega (arith, high)) (omega (arith, low, high))) first
