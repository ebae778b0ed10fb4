-- Ranges of a list's nodes: where there are none, of two lists, of the nodes below, and as the rules of shapes have them.
use Rattle.std.proofs.Common.{ℕ, ◌≡◌, ◌+◌, ◌-◌, ◌<◌, ◌≤◌, min, eqb, List, [], ◌∷◌, ◌++◌, length, sum_by, map, refl, sym, ap, ◌∙◌, arith, eq-eqb, ne_eqb, append_assoc}
use Rattle.std.specs.List.{All, flat_map}
use Rattle.std.proofs.lemmas.List.{length-append}
use Rattle.std.proofs.lemmas.List.Sums.{sum_by-cons}
use Rattle.std.proofs.lemmas.List.Concat.{flat_map-append}
use mathlib.Core.Logic.{dite}
use native.Mathlib.Decide.{ℕ_discrete, dec_lt}
use Rattle.node_forest.specs.Label.{Node}
use Rattle.tree_shapes.specs.Keep.{touched}
use Rattle.tree_shapes.specs.Shape.{Shape, length_of}
use Rattle.tree_shapes.proofs.KeepLaws.{if_true, if_false, touched-past, touched-one, touched-more}
use Rattle.node_edges.specs.Trees.{shape_of}
use Rattle.node_edges.proofs.EdgeLaws.{length-shape}
use Rattle.node_edges.proofs.TreeLaws.{All-tail}
use Rattle.chunk_reader.specs.Places.{long}
use Rattle.btree_cut.specs.Ranges.{Range, some_of, ranges}

abbrev pub range : Node → ℕ → ℕ → Range
range e start n = record { node = e; start = start; size = n }

pub none-of : (e : Node) (start n : ℕ) → n ≡ 0 → some_of e start n ≡ []
none-of e start n z = if_true (eqb n 0) [] (range e start n ∷ []) (eq-eqb n 0 z)

pub one-of : (e : Node) (start n : ℕ) → (n ≡ 0 → ⊥) → some_of e start n ≡ range e start n ∷ []
one-of e start n nz = if_false (eqb n 0) [] (range e start n ∷ []) (ne_eqb n 0 nz)

-- ---- where there are none
pub ranges-past : (es : List Node) (o n : ℕ) → sum_by long es ≤ o → ranges es o n ≡ []
ranges-past [] o n past = refl
ranges-past (e ∷ es) o n past =
    let sum = sum_by-cons long e es in
    let here = none-of e o (min n (long e - o)) (omega (arith, sum, past)) in
    let rest = ranges-past es (o - long e) (n - (long e - o)) (omega (arith, sum, past)) in
    λ i. here i ++ rest i

pub ranges-zero : (es : List Node) (o n : ℕ) → n ≡ 0 → ranges es o n ≡ []
ranges-zero [] o n z = refl
ranges-zero (e ∷ es) o n z =
    let here = none-of e o (min n (long e - o)) (omega (arith, z)) in
    let rest = ranges-zero es (o - long e) (n - (long e - o)) (omega (arith, z)) in
    λ i. here i ++ rest i

-- ---- of two lists
pub ranges-append : (xs ys : List Node) (o n : ℕ) → ranges (xs ++ ys) o n ≡ ranges xs o n ++ ranges ys (o - sum_by long xs) (n - (sum_by long xs - o))
ranges-append [] ys o n =
    let a : o ≡ o - sum_by long [] = omega arith in
    let b : n ≡ n - (sum_by long [] - o) = omega arith in
    λ i. ranges ys (a i) (b i)
ranges-append (x ∷ xs) ys o n =
    let sum = sum_by-cons long x xs in
    let here = some_of x o (min n (long x - o)) in
    let p : ℕ = o - long x in
    let k : ℕ = n - (long x - o) in
    let a : p - sum_by long xs ≡ o - sum_by long (x ∷ xs) = omega (arith, sum) in
    let b : k - (sum_by long xs - p) ≡ n - (sum_by long (x ∷ xs) - o) = omega (arith, sum) in
    ap (λ (rs : List Range). here ++ rs) (ranges-append xs ys p k ∙ (λ i. ranges xs p k ++ ranges ys (a i) (b i)))
    ∙ sym (append_assoc here (ranges xs p k) (ranges ys (o - sum_by long (x ∷ xs)) (n - (sum_by long (x ∷ xs) - o))))

-- no more bytes than there are
pub ranges-most : (xs : List Node) (o n : ℕ) → ranges xs o n ≡ ranges xs o (min n (sum_by long xs - o))
ranges-most [] o n = refl
ranges-most (x ∷ xs) o n =
    let sum = sum_by-cons long x xs in
    let p : ℕ = o - long x in
    let m : ℕ = min n (sum_by long (x ∷ xs) - o) in
    let a : min n (long x - o) ≡ min m (long x - o) = omega (arith, sum) in
    let b : min (n - (long x - o)) (sum_by long xs - p) ≡ min (m - (long x - o)) (sum_by long xs - p) = omega (arith, sum) in
    (λ i. some_of x o (a i) ++ ranges-most xs p (n - (long x - o)) i)
    ∙ (λ i. some_of x o (min m (long x - o)) ++ ranges xs p (b i))
    ∙ ap (λ (rs : List Range). some_of x o (min m (long x - o)) ++ rs) (sym (ranges-most xs p (m - (long x - o))))

-- ---- of the nodes below
abbrev pub below : (Node → List Node) → Range → List Range
below f r = ranges (f r.node) r.start r.size

below-one : (f : Node → List Node) (e : Node) (o n : ℕ) → sum_by long (f e) ≡ long e → flat_map (below f) (some_of e o (min n (long e - o))) ≡ ranges (f e) o n
below-one f e o n long_as =
    let m : ℕ = min n (long e - o) in
    let same : ranges (f e) o n ≡ ranges (f e) o m = ranges-most (f e) o n ∙ ap (λ (k : ℕ). ranges (f e) o (min n (k - o))) long_as in
    dite (ℕ_discrete m 0)
    (λ z. ap (flat_map (below f)) (none-of e o m z) ∙ sym (same ∙ ranges-zero (f e) o m z))
    (λ nz. ap (flat_map (below f)) (one-of e o m nz) ∙ (append-none (ranges (f e) o m) ∙ sym same))
  where
    append-none : (rs : List Range) → rs ++ [] ≡ rs
    append-none [] = refl
    append-none (r ∷ rs) = ap (λ (qs : List Range). r ∷ qs) (append-none rs)

pub ranges-below : (f : Node → List Node) (es : List Node) (o n : ℕ) → All (λ (e : Node). sum_by long (f e) ≡ long e) es → ranges (flat_map f es) o n ≡ flat_map (below f) (ranges es o n)
ranges-below f [] o n all = refl
ranges-below f (e ∷ es) o n all =
    let long_as : sum_by long (f e) ≡ long e = all 0 e (omega arith) in
    ranges-append (f e) (flat_map f es) o n
    ∙ (λ i. ranges (f e) o n ++ ranges (flat_map f es) (o - long_as i) (n - (long_as i - o)))
    ∙ (λ i. sym (below-one f e o n long_as) i ++ ranges-below f es (o - long e) (n - (long e - o)) (All-tail (λ (x : Node). sum_by long (f x) ≡ long x) e es all) i)
    ∙ sym (flat_map-append (below f) (some_of e o (min n (long e - o))) (ranges es (o - long e) (n - (long e - o))))

-- ---- of edges, as the rules of shapes have them
pub touched-ranges : (cut : Shape → ℕ → ℕ → Shape) (es : List Node) (o n : ℕ) → 0 < n → touched cut (map shape_of es) o n ≡ map (λ (r : Range). cut (shape_of r.node) r.start r.size) (ranges es o n)
touched-ranges cut [] o n some = refl
touched-ranges cut (e ∷ es) o n some =
    let f : Range → Shape = λ r. cut (shape_of r.node) r.start r.size in
    let x : ℕ = long e in
    let same : length_of (shape_of e) ≡ x = length-shape e in
    let m : ℕ = min n (x - o) in
    dite (dec_lt o x)
    (λ here. dite (dec_lt x (o + n))
    (λ more.
    let k : m ≡ length_of (shape_of e) - o = omega (arith, same, here, more) in
    let z : 0 ≡ o - x = omega (arith, here) in
    let left : n - (length_of (shape_of e) - o) ≡ n - (x - o) = omega (arith, same) in
    touched-more cut (shape_of e) (map shape_of es) o n (omega (arith, same, here)) (omega (arith, same, more))
    ∙ (λ i. cut (shape_of e) o (sym k i) ∷ touched cut (map shape_of es) (z i) (left i))
    ∙ ap (λ (ss : List Shape). cut (shape_of e) o m ∷ ss) (touched-ranges cut es (o - x) (n - (x - o)) (omega (arith, here, more)))
    ∙ sym (ap (λ (rs : List Range). map f (rs ++ ranges es (o - x) (n - (x - o)))) (one-of e o m (omega (arith, here, some)))))
    (λ last.
    let k : n ≡ m = omega (arith, last) in
    touched-one cut (shape_of e) (map shape_of es) o n (omega (arith, same, here)) (omega (arith, same, last))
    ∙ (λ i. cut (shape_of e) o (k i) ∷ [])
    ∙ sym ((λ i. map f (one-of e o m (omega (arith, here, some)) i ++ ranges-zero es (o - x) (n - (x - o)) (omega (arith, last)) i)))))
    (λ past.
    let left : n ≡ n - (x - o) = omega (arith, past) in
    let start : o - length_of (shape_of e) ≡ o - x = omega (arith, same) in
    touched-past cut (shape_of e) (map shape_of es) o n (omega (arith, same, past))
    ∙ (λ i. touched cut (map shape_of es) (start i) (left i))
    ∙ touched-ranges cut es (o - x) (n - (x - o)) (omega (arith, some, past))
    ∙ sym (ap (λ (rs : List Range). map f (rs ++ ranges es (o - x) (n - (x - o)))) (none-of e o m (omega (arith, past)))))

-- ---- how many there are
pub ranges-some : (es : List Node) (o n : ℕ) → 0 < n → o < sum_by long es → 0 < length (ranges es o n)
ranges-some [] o n some inside = absurd (omega (arith, inside))
ranges-some (e ∷ es) o n some inside =
    let sum = sum_by-cons long e es in
    let m : ℕ = min n (long e - o) in
    let here = some_of e o m in
    let rest = ranges es (o - long e) (n - (long e - o)) in
    dite (ℕ_discrete m 0)
    (λ z. omega (arith, length-append here rest, ranges-some es (o - long e) (n - (long e - o)) (omega (arith, some, z)) (omega (arith, sum, inside, z, some))))
    (λ nz. omega (arith, length-append here rest, ap (λ (rs : List Range). length rs) (one-of e o m nz)))

some-few : (e : Node) (o n : ℕ) → length (some_of e o n) ≤ 1
some-few e o n = dite (ℕ_discrete n 0)
    (λ z. omega (arith, ap (λ (rs : List Range). length rs) (none-of e o n z)))
    (λ nz. omega (arith, ap (λ (rs : List Range). length rs) (one-of e o n nz)))

pub ranges-few : (es : List Node) (o n : ℕ) → length (ranges es o n) ≤ length es
ranges-few [] o n = omega arith
ranges-few (e ∷ es) o n =
    omega (arith, length-append (some_of e o (min n (long e - o))) (ranges es (o - long e) (n - (long e - o))), some-few e o (min n (long e - o)), ranges-few es (o - long e) (n - (long e - o)))

-- of all bytes: each node, whole
pub all-ranges : (es : List Node) (o n : ℕ) → All (λ (e : Node). 0 < long e) es → o ≡ 0 → sum_by long es ≤ n → ranges es o n ≡ map (λ (e : Node). range e 0 (long e)) es
all-ranges [] o n all z fits = refl
all-ranges (e ∷ es) o n all z fits =
    let some : 0 < long e = all 0 e (omega arith) in
    let sum = sum_by-cons long e es in
    let m : ℕ = min n (long e - o) in
    let k : m ≡ long e = omega (arith, z, sum, fits) in
    let rest = all-ranges es (o - long e) (n - (long e - o)) (All-tail (λ (x : Node). 0 < long x) e es all) (omega (arith, z)) (omega (arith, z, sum, fits)) in
    ap (λ (rs : List Range). rs ++ ranges es (o - long e) (n - (long e - o))) (one-of e o m (omega (arith, k, some)))
    ∙ (λ i. range e (z i) (k i) ∷ rest i)
