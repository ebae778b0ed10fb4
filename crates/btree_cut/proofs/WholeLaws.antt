-- Each node that a range holds whole stands in one of the trees that are kept.
use Rattle.std.proofs.Common.{ℕ, zero, suc, ◌≡◌, ◌+◌, ◌-◌, ◌<◌, ◌≤◌, min, List, [], ◌∷◌, length, sum_by, take, refl, sym, ap, subst, ◌∙◌, get_or, arith}
use Rattle.std.specs.List.{All, Contains, flat_map}
use Rattle.std.proofs.lemmas.List.{length-map}
use Rattle.std.proofs.lemmas.List.Sums.{sum_by-cons}
use Rattle.std.proofs.lemmas.List.Elements.{Contains-append_left, Contains-append_right, Contains-get_or}
use mathlib.Core.Logic.{dite}
use native.Mathlib.Decide.{ℕ_discrete}
use Rattle.node_forest.specs.Forest.{children}
use Rattle.node_forest.specs.Label.{Node}
use Rattle.tree_shapes.specs.Shape.{level}
use Rattle.node_edges.specs.Trees.{shape_of, IsTreeAt}
use Rattle.node_edges.proofs.TreeLaws.{edges-trees}
use Rattle.pool_rule.specs.Trades.{IsWithin, itself, below}
use Rattle.pool_rule.specs.Views.{View}
use Rattle.pool_rule.proofs.Trades.{IsWithin-trans}
use Rattle.btree_node.specs.Made.{IsMadeFrom}
use Rattle.btree_node.proofs.OpenLaws.{edges-length}
use Rattle.chunk_reader.specs.Places.{long}
use Rattle.chunk_reader.proofs.PlaceLaws.{edge-within}
use Rattle.btree_cut.specs.Ranges.{Range, some_of, ranges}
use Rattle.btree_cut.specs.Cutting.{kept_at, kept_from, kept_within, alone, StandsAt, HoldsWhole}
use Rattle.btree_cut.proofs.RangeLaws.{range, one-of, all-ranges}
use Rattle.btree_cut.proofs.CutLaws.{tree-some, all-some}
use Rattle.btree_cut.proofs.MadeLaws.{kept-whole, kept-below}
use Rattle.btree_cut.proofs.LowLaws.{kept-none, kept-above}

-- m stands in one of these trees
abbrev IsKeptIn : List Node → Node → Type 0
IsKeptIn ks m = (s : Node) × Contains ks s × IsWithin m s

contains-flat : (f : Range → List Node) (rs : List Range) (r : Range) (s : Node) → Contains rs r → Contains (f r) s → Contains (flat_map f rs) s
contains-flat f [] r s (k, lt, is) c = absurd (omega (arith, lt))
contains-flat f (q ∷ rs) r s (zero, lt, is) c = Contains-append_left (f q) (flat_map f rs) s (subst (λ (z : Range). Contains (f z) s) (sym is) c)
contains-flat f (q ∷ rs) r s (suc k, lt, is) c = Contains-append_right (f q) (flat_map f rs) s (contains-flat f rs r s (k, omega (arith, lt), is) c)

-- the range that an edge has of its own, where it has a byte
range-of : (es : List Node) (start n k : ℕ) (d : Node) (s z : ℕ) → k < length es → s ≡ start - sum_by long (take k es) → z ≡ min (n - (sum_by long (take k es) - start)) (long (get_or es k d) - s) → 0 < z
    → Contains (ranges es start n) (range (get_or es k d) s z)
range-of [] start n k d s z lt first size some = absurd (omega (arith, lt))
range-of (e ∷ es) start n zero d s z lt first size some =
    let m : ℕ = min n (long e - start) in
    let a : start ≡ s = omega (arith, first) in
    let b : m ≡ z = omega (arith, first, size) in
    Contains-append_left (some_of e start m) (ranges es (start - long e) (n - (long e - start))) (range e s z)
    (subst (λ (rs : List Range). Contains rs (range e s z)) (sym (one-of e start m (omega (arith, b, some)))) (0, omega arith, λ i. range e (a i) (b i)))
range-of (e ∷ es) start n (suc k) d s z lt first size some =
    let sum = sum_by-cons long e (take k es) in
    Contains-append_right (some_of e start (min n (long e - start))) (ranges es (start - long e) (n - (long e - start))) (range (get_or es k d) s z)
    (range-of es (start - long e) (n - (long e - start)) k d s z (omega (arith, lt)) (omega (arith, first, sum)) (omega (arith, size, sum)) some)

-- ---- nodes at their places
pub stands-within : (d : ℕ) (e : Node) (o : ℕ) (m : Node) → StandsAt d e o m → IsWithin m e
stands-within zero e o m (is, z) = subst (λ (t : Node). IsWithin t e) (sym is) itself
stands-within (suc d) e o m (k, p, lt, at, rest) = below (Contains-get_or (children e) k e lt) (stands-within d (get_or (children e) k e) p m rest)

-- has bytes, all of them among those of the node above
record HasPlace (l d : ℕ) (e : Node) (o : ℕ) (m : Node) : Type 0 where
  fits : o + long m ≤ long e
  tree : IsTreeAt (l - d) m

place-in : (l d : ℕ) (e : Node) (o : ℕ) (m : Node) → IsTreeAt l e → d ≤ l → StandsAt d e o m → HasPlace l d e o m
place-in l zero e o m tree le (is, z) =
    let same : l ≡ l - 0 = omega arith in
    record { fits = omega (arith, z, ap long is); tree = subst (λ (k : ℕ). IsTreeAt k m) same (subst (IsTreeAt l) (sym is) tree) }
place-in zero (suc d) e o m tree le at = absurd (omega (arith, le))
place-in (suc l) (suc d) e o m tree le (k, p, lt, at, rest) =
    let r = place-in l d (get_or (children e) k e) p m (edges-trees l e tree k e lt) (omega (arith, le)) rest in
    let same : l - d ≡ suc l - suc d = omega arith in
    record {
      fits = omega (arith, at, r.fits, edge-within (children e) k e lt, edges-length l e (children e) refl tree);
      tree = subst (λ (j : ℕ). IsTreeAt j m) same r.tree;
    }

place-some : (l d : ℕ) (e : Node) (o : ℕ) (m : Node) → IsTreeAt l e → d ≤ l → StandsAt d e o m → 0 < long m
place-some l d e o m tree le at = tree-some (l - d) m (place-in l d e o m tree le at).tree

-- ---- in what is kept of a node
-- all of it
kept-all : (l d : ℕ) (e : Node) (start n o : ℕ) (m : Node) → StandsAt d e o m → n ≡ long e → IsKeptIn (kept_at l e start n) m
kept-all l d e start n o m at whole = (e, subst (λ (ks : List Node). Contains ks e) (sym (kept-whole l e start n whole)) (0, omega arith, refl), stands-within d e o m at)

whole-kept : (l d : ℕ) (e : Node) (start n o : ℕ) (m : Node) → IsTreeAt l e → d ≤ l → StandsAt d e o m → start ≤ o → o + long m ≤ start + n → start + n ≤ long e → IsKeptIn (kept_at l e start n) m
whole-kept l zero e start n o m tree le (is, z) from to fits = kept-all l zero e start n o m (is, z) (omega (arith, z, ap long is, from, to, fits))
whole-kept zero (suc d) e start n o m tree le at from to fits = absurd (omega (arith, le))
whole-kept (suc l) (suc d) e start n o m tree le (k, p, lt, sum, rest) from to fits = dite (ℕ_discrete n (long e))
    (λ whole. kept-all (suc l) (suc d) e start n o m (k, p, lt, sum, rest) whole)
    (λ less.
    let es = children e in
    let x = get_or es k e in
    let before : ℕ = sum_by long (take k es) in
    let s : ℕ = start - before in
    let z : ℕ = min (n - (before - start)) (long x - s) in
    let child = edges-trees l e tree k e lt in
    let place = place-in l d x p m child (omega (arith, le)) rest in
    let some = place-some l d x p m child (omega (arith, le)) rest in
    let r = whole-kept l d x s z p m child (omega (arith, le)) rest (omega (arith, from, sum)) (omega (arith, to, sum, place.fits, from)) (omega (arith, place.fits, some, from, sum)) in
    let there = range-of es start n k e s z lt refl refl (omega (arith, place.fits, some, from, to, sum)) in (
      r.0,
      subst (λ (ks : List Node). Contains ks r.0) (sym (kept-below l e start n less)) (contains-flat (λ (q : Range). kept_at l q.node q.start q.size) (ranges es start n) (range x s z) r.0 there r.1),
      r.2,
    ))

-- ---- with roots of one edge dropped
abbrev StayAt : ℕ → Type 0
StayAt l =
    (d : ℕ) (e : Node) (start n o : ℕ) (m : Node) → IsTreeAt l e → d ≤ l → StandsAt d e o m → start ≤ o → o + long m ≤ start + n → start + n ≤ long e
    → (0 < level (shape_of m) → 2 ≤ length (children m)) → IsKeptIn (kept_from l e start n) m

only : (a b : Range) → Contains (a ∷ []) b → a ≡ b
only a b (zero, lt, is) = is
only a b (suc k, lt, is) = absurd (omega (arith, lt))

-- the range lies under a single edge, so the node isn't all of it
stay-below : (l : ℕ) → StayAt l → (d : ℕ) (e : Node) (start n o : ℕ) (m : Node) (r : Range) → IsTreeAt (suc l) e → d ≤ suc l → StandsAt d e o m → start ≤ o → o + long m ≤ start + n → start + n ≤ long e
    → (0 < level (shape_of m) → 2 ≤ length (children m)) → ranges (children e) start n ≡ r ∷ [] → IsKeptIn (kept_from l r.node r.start r.size) m
stay-below l stays zero e start n o m r tree le (is, z) from to fits wide single =
    let same = all-ranges (children e) start n (all-some l (children e) (edges-trees l e tree)) (omega (arith, from, z)) (omega (arith, to, from, z, ap long is, edges-length l e (children e) refl tree)) in
    let up : 0 < level (shape_of m) = omega (arith, tree.at, ap (λ (t : Node). level (shape_of t)) is) in
    let two : 2 ≤ length (children e) = omega (arith, wide up, ap (λ (t : Node). length (children t)) is) in
    absurd (omega (arith, two, ap (λ (rs : List Range). length rs) (sym same ∙ single), length-map (children e) (λ (x : Node). range x 0 (long x))))
stay-below l stays (suc d) e start n o m r tree le (k, p, lt, sum, rest) from to fits wide single =
    let es = children e in
    let x = get_or es k e in
    let before : ℕ = sum_by long (take k es) in
    let s : ℕ = start - before in
    let z : ℕ = min (n - (before - start)) (long x - s) in
    let child = edges-trees l e tree k e lt in
    let place = place-in l d x p m child (omega (arith, le)) rest in
    let some = place-some l d x p m child (omega (arith, le)) rest in
    let there = range-of es start n k e s z lt refl refl (omega (arith, place.fits, some, from, to, sum)) in
    let same : r ≡ range x s z = only r (range x s z) (subst (λ (rs : List Range). Contains rs (range x s z)) single there) in
    subst (λ (q : Range). IsKeptIn (kept_from l q.node q.start q.size) m) (sym same)
    (stays d x s z p m child (omega (arith, le)) rest (omega (arith, from, sum)) (omega (arith, to, sum, place.fits, from)) (omega (arith, place.fits, some, from, sum)) wide)

kept-alone : (rs all : List Range) (f : Range → List Node) (here : List Node) (m : Node) → all ≡ rs → IsKeptIn here m → ((r : Range) → all ≡ r ∷ [] → IsKeptIn (f r) m) → IsKeptIn (alone rs f here) m
kept-alone [] all f here m is kept one = kept
kept-alone (r ∷ []) all f here m is kept one = one r is
kept-alone (r ∷ q ∷ rs) all f here m is kept one = kept

whole-from : (l : ℕ) → StayAt l
whole-from zero d e start n o m tree le at from to fits wide =
    subst (λ (ks : List Node). IsKeptIn ks m) (sym (kept-none e start n)) (whole-kept 0 d e start n o m tree le at from to fits)
whole-from (suc l) d e start n o m tree le at from to fits wide =
    let rs = ranges (children e) start n in
    subst (λ (ks : List Node). IsKeptIn ks m) (sym (kept-above l e start n))
    (kept-alone rs rs (λ r. kept_from l r.node r.start r.size) (kept_at (suc l) e start n) m refl (whole-kept (suc l) d e start n o m tree le at from to fits)
    (λ r single. stay-below l (whole-from l) d e start n o m r tree le at from to fits wide single))

-- ---- in what is made of the trees that are kept
pub holds-whole : (spent : List Node) (t : Node) (start n : ℕ) (v w : View) (e : Node) → IsTreeAt (level (shape_of t)) t → start + n ≤ long t → IsMadeFrom spent (kept_within t start n) v w e → HoldsWhole t start n e
holds-whole spent t start n v w e tree fits made d o m le at from to wide =
    let r = whole-from (level (shape_of t)) d t start n o m tree le at from to fits wide in
    IsWithin-trans r.2 (within-by (made.stand) r.1)
  where
    within-by : All (λ (s : Node). IsWithin s e) (kept_within t start n) → {s : Node} → Contains (kept_within t start n) s → IsWithin s e
    within-by all {s = s} (k, lt, is) = subst (λ (x : Node). IsWithin x e) is (all k s lt)
