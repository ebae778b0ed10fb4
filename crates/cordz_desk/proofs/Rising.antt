-- Records that were settled one after another stand in different slots.
use Rattle.std.proofs.Common.{◌≡◌, ℕ, ◌<◌, List, [], ◌∷◌, Bool, true, false, refl, sym, subst, ⊎_elim, arith, eqb-true}
use Rattle.std.specs.Prelude.{◌||◌, ◌==◌}
use Rattle.cordz_core.specs.History.{History}
use Rattle.cordz_core.specs.Legal.{IsRisingFrom, course_of, settled_at, settle_places}
use Rattle.cordz_core.specs.Queue.{has, Apart}
use Rattle.cordz_core.specs.Times.{records, record_in}
use Rattle.record_rule.proofs.Sweeps.{true_or_false}

abbrev place_of : History → ℕ → ℕ
place_of h s = settled_at (course_of (record_in (records h) s))

rises_to : (h : History) (b : ℕ) (xs : List ℕ) (s : ℕ) → IsRisingFrom b (settle_places h xs) → has s xs ≡ true → b < place_of h s
rises_to h b [] s r e = absurd (cc)
rises_to h b (x ∷ xs) s r e = by_test (s == x) (λ is. eqb-true s x is) (rises_to h (place_of h x) xs s r.1) e
  where
    by_test : (t : Bool) → (t ≡ true → s ≡ x) → (has s xs ≡ true → place_of h x < place_of h s) → (t || has s xs) ≡ true → b < place_of h s
    by_test true is later e = subst (λ (z : ℕ). b < place_of h z) (sym (is refl)) r.0
    by_test false is later e = let low = r.0 in let k = later e in omega arith

pub rising_apart : (h : History) (b : ℕ) (xs : List ℕ) → IsRisingFrom b (settle_places h xs) → Apart xs
rising_apart h b [] r = tt
rising_apart h b (x ∷ xs) r = (
  ⊎_elim (λ is. absurd (let k = rises_to h (place_of h x) xs x r.1 is in omega arith)) (λ not. not) (true_or_false (has x xs)),
  rising_apart h (place_of h x) xs r.1,
)
