-- An offset within edges falls in one of them, and just there.
use Rattle.std.proofs.Common.{ℕ, zero, suc, ◌≡◌, ◌+◌, ◌-◌, ◌<◌, ◌≤◌, List, [], ◌∷◌, length, sum_by, sym, ap, ◌∙◌, get_or, take, arith, subst, ◌⊎◌, inl, inr, zero-add}
use Rattle.std.proofs.lemmas.List.Sums.{sum_by-append}
use Rattle.std.proofs.lemmas.Bool.{cases_lt}
use Rattle.node_forest.specs.Label.{Node}
use Rattle.chunk_reader.specs.Places.{long, place_in, IsPlace}

cons-sum : (e : Node) (es : List Node) → sum_by long (e ∷ es) ≡ long e + sum_by long es
cons-sum e es = omega (arith, sum_by-append long (e ∷ []) es)

-- where the edge in front covers it, and where it doesn't
pub place-here : (e : Node) (es : List Node) (offset : ℕ) → offset < long e → place_in (e ∷ es) offset ≡ (0, offset)
place-here e es offset lt = grind (arith, lt)

pub place-beyond : (e : Node) (es : List Node) (offset : ℕ) → long e ≤ offset → place_in (e ∷ es) offset ≡ (suc (place_in es (offset - long e)).0, (place_in es (offset - long e)).1)
place-beyond e es offset le = grind (arith, le)

-- the edge at k, so many bytes in
pub place-at : (es : List Node) (offset k inner : ℕ) (d : Node) → k < length es → offset ≡ sum_by long (take k es) + inner → inner < long (get_or es k d) → place_in es offset ≡ (k, inner)
place-at [] offset k inner d lt e in_edge = absurd (omega arith)
place-at (e ∷ es) offset zero inner d lt is in_edge = ap (place_in (e ∷ es)) (is ∙ zero-add inner) ∙ place-here e es inner in_edge
place-at (e ∷ es) offset (suc k) inner d lt is in_edge =
    let sum = cons-sum e (take k es) in
    let below = place-at es (offset - long e) k inner d (omega arith) (omega (arith, is, sum)) in_edge in
    place-beyond e es offset (omega (arith, is, sum)) ∙ ap (λ (p : ℕ × ℕ). (suc p.0, p.1)) below

suc-place : (e : Node) (es : List Node) (offset k inner : ℕ) → long e ≤ offset → IsPlace es (offset - long e) k inner → IsPlace (e ∷ es) offset (suc k) inner
suc-place e es offset k inner le p = record {
  within = omega (arith, p.within);
  sum = omega (arith, le, p.sum, cons-sum e (take k es));
  covers = λ d. p.covers d;
}

placed-by : (e : Node) (es : List Node) (offset : ℕ) → (offset < long e) ⊎ (long e ≤ offset) → offset < sum_by long (e ∷ es) → ((rest : ℕ) → rest < sum_by long es → IsPlace es rest (place_in es rest).0 (place_in es rest).1) → IsPlace (e ∷ es) offset (place_in (e ∷ es) offset).0 (place_in (e ∷ es) offset).1
placed-by e es offset (inl lt) within rest = subst (λ (p : ℕ × ℕ). IsPlace (e ∷ es) offset p.0 p.1) (sym (place-here e es offset lt)) (record { within = omega arith; sum = sym (zero-add offset); covers = λ d. lt })
placed-by e es offset (inr le) within rest = subst (λ (p : ℕ × ℕ). IsPlace (e ∷ es) offset p.0 p.1) (sym (place-beyond e es offset le)) (suc-place e es offset _ _ le (rest (offset - long e) (omega (arith, within, cons-sum e es))))

-- an offset within the edges falls in one of them
pub placed : (es : List Node) (offset : ℕ) → offset < sum_by long es → IsPlace es offset (place_in es offset).0 (place_in es offset).1
placed [] offset lt = absurd (omega arith)
placed (e ∷ es) offset lt = placed-by e es offset (cases_lt offset (long e)) lt (placed es)

pub only-place : (es : List Node) (offset at inner : ℕ) → IsPlace es offset at inner → place_in es offset ≡ (at, inner)
only-place [] offset at inner p = absurd (omega (arith, p.within))
only-place (e ∷ es) offset at inner p = place-at (e ∷ es) offset at inner e p.within p.sum (p.covers e)

-- an edge stands within them
pub edge-within : (es : List Node) (k : ℕ) (d : Node) → k < length es → sum_by long (take k es) + long (get_or es k d) ≤ sum_by long es
edge-within [] k d lt = absurd (omega arith)
edge-within (e ∷ es) zero d lt = omega (arith, cons-sum e es)
edge-within (e ∷ es) (suc k) d lt = omega (arith, cons-sum e es, cons-sum e (take k es), edge-within es k d (omega arith))
