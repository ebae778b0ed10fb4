-- The Branches that a way keeps, in two arrays.
use Rattle.std.proofs.Common.{ℕ, zero, suc, ◌≡◌, ◌+◌, ◌<◌, ◌≤◌, List, [], ◌∷◌, ◌++◌, length, map, refl, sym, ap, ◌∙◌, take, arith, get_or, Some, inr}
use Rattle.std.specs.Prelude.{slice_set, slice_get}
use Rattle.std.specs.Borrow.{Bor}
use Rattle.std.proofs.lemmas.List.{length-take, take-take}
use Rattle.node_forest.specs.Label.{Node}
use Rattle.chunk_reader.specs.Places.{long}
use Rattle.chunk_reader.specs.Stops.{Kept, zipped, edge_in, path_in, IsKeeper, RisesTo}

pub length-zipped : (xs : List (Bor Node × ℕ)) (starts : List ℕ) → length xs ≡ length starts → length (zipped xs starts) ≡ length xs
length-zipped [] starts e = refl
length-zipped (x ∷ xs) [] e = absurd (omega (arith, e))
length-zipped (x ∷ xs) (s ∷ starts) e = ap (λ n. suc n) (length-zipped xs starts (omega (arith, e)))

-- one more is written behind those that are used
pub zipped-more : (d : ℕ) (xs : List (Bor Node × ℕ)) (starts : List ℕ) (x : Bor Node × ℕ) (s : ℕ) → d < length xs → d < length starts
    → take (suc d) (zipped (slice_set xs d x) (slice_set starts d s)) ≡ take d (zipped xs starts) ++ record { branch = x.0.now; start = s; edge = x.1 } ∷ []
zipped-more d [] starts x s lt under = absurd (omega (arith, lt))
zipped-more d (y ∷ ys) [] x s lt under = absurd (omega (arith, under))
zipped-more zero (y ∷ ys) (z ∷ zs) x s lt under = refl
zipped-more (suc d) (y ∷ ys) (z ∷ zs) x s lt under = ap (λ rest. record { branch = y.0.now; start = z; edge = y.1 } ∷ rest) (zipped-more d ys zs x s (omega (arith, lt)) (omega (arith, under)))

pub path-zipped : (d : ℕ) (xs : List (Bor Node × ℕ)) (starts : List ℕ) → length xs ≡ length starts → map edge_in (take d xs) ≡ path_in (take d (zipped xs starts))
path-zipped zero xs starts e = refl
path-zipped (suc d) [] starts e = refl
path-zipped (suc d) (x ∷ xs) [] e = absurd (omega (arith, e))
path-zipped (suc d) (x ∷ xs) (s ∷ starts) e = ap (λ rest. edge_in x ∷ rest) (path-zipped d xs starts (omega (arith, e)))

-- as many are kept as places are used
pub length-kept : (d : ℕ) (xs : List (Bor Node × ℕ)) (starts : List ℕ) → IsKeeper d xs starts → length (take d (zipped xs starts)) ≡ d
length-kept d xs starts k = omega (arith, length-take d (zipped xs starts), length-zipped xs starts (omega (arith, k.places, k.begins)), k.few, k.places)

-- the stop at a used place
pub stop-kept : (most d : ℕ) (xs : List (Bor Node × ℕ)) (starts : List ℕ) (x : Bor Node × ℕ) (s : ℕ) → d < most → d < length xs → d < length starts
    → slice_get (take most (zipped xs starts)) d ≡ Some (record { branch = (get_or xs d x).0.now; start = get_or starts d s; edge = (get_or xs d x).1 })
stop-kept zero d xs starts x s lt in_xs in_starts = absurd (omega (arith, lt))
stop-kept (suc most) d [] starts x s lt in_xs in_starts = absurd (omega (arith, in_xs))
stop-kept (suc most) d (y ∷ ys) [] x s lt in_xs in_starts = absurd (omega (arith, in_starts))
stop-kept (suc most) zero (y ∷ ys) (z ∷ zs) x s lt in_xs in_starts = refl
stop-kept (suc most) (suc d) (y ∷ ys) (z ∷ zs) x s lt in_xs in_starts = stop-kept most d ys zs x s (omega (arith, lt)) (omega (arith, in_xs)) (omega (arith, in_starts))

take-less : {X : Type 0} (m n : ℕ) (xs : List X) → m ≤ n → take m xs ≡ take m (take n xs)
take-less m n xs le = sym (take-take m n xs le)

-- a way that is taken back to a used place, whose Branch covers the place in the text
pub rises-to : (old : Kept) (most d place : ℕ) (xs ys : List (Bor Node × ℕ)) (starts begins : List ℕ) (root top : Bor Node) (x : Bor Node × ℕ)
    → record { root = top.now; stops = take most (zipped ys begins) } ≡ old → xs ≡ ys → starts ≡ begins → root ≡ top → d < most → d < length xs → d < length starts
    → get_or starts d 0 ≤ place → place < get_or starts d 0 + long (get_or xs d x).0.now
    → RisesTo old place (record { root = root.now; stops = take d (zipped xs starts) }) (get_or xs d x).0.now (get_or starts d 0)
rises-to old most d place xs ys starts begins root top x is same_xs same_starts same_root lt in_xs in_starts from within =
    let is_old : record { root = root.now; stops = take most (zipped xs starts) } ≡ old = rw (same_xs, same_starts, same_root) is in
    record {
      root = ap (λ (k : Kept). k.root) is_old;
      kept = d;
      stops = take-less d most (zipped xs starts) (omega (arith, lt)) ∙ ap (λ (k : Kept). take d k.stops) is_old;
      from = inr (record {
        stop = record { branch = (get_or xs d x).0.now; start = get_or starts d 0; edge = (get_or xs d x).1 };
        found = ap (λ (k : Kept). slice_get k.stops d) (sym is_old) ∙ stop-kept most d xs starts x 0 lt in_xs in_starts;
        branch_is = refl;
        start_is = refl;
        covers = record { from = from; within = within };
      });
    }
