-- Pieces of a list's data edges: of all their bytes, of two lists, and their texts.
use Rattle.std.proofs.Common.{ℕ, ◌≡◌, ◌+◌, ◌-◌, ◌<◌, ◌≤◌, min, List, [], ◌∷◌, ◌++◌, length, sum_by, refl, sym, ap, subst, ◌∙◌, take, drop, arith}
use Rattle.std.specs.List.{All, flat_map}
use Rattle.std.proofs.lemmas.List.{length-drop, take_all, drop_all, take-append-le, drop-append-le}
use Rattle.std.proofs.lemmas.List.Sums.{sum_by-cons}
use Rattle.std.proofs.Math.Seq.{take-nil, drop-nil, take-append-add, drop-append-add}
use mathlib.Core.Logic.{dite}
use native.Mathlib.Decide.{ℕ_discrete, dec_lt}
use Rattle.node_forest.specs.Label.{Node, number}
use Rattle.node_edges.specs.Text.{text}
use Rattle.node_edges.specs.Trees.{IsTreeAt}
use Rattle.node_edges.proofs.TextLaws.{length-text}
use Rattle.node_edges.proofs.TreeLaws.{All-tail}
use Rattle.edge_nodes.proofs.PieceLaws.{piece-whole, text-made}
use Rattle.chunk_reader.specs.Places.{long}
use Rattle.btree_cut.specs.Ranges.{Range, some_of, ranges, AreEach, IsPiece, ArePieces}
use Rattle.btree_cut.proofs.RangeLaws.{range, none-of, one-of}

pub each-append : (P : Range → Node → Type 0) (rs ss : List Range) (es fs : List Node) → AreEach P rs es → AreEach P ss fs → AreEach P (rs ++ ss) (es ++ fs)
each-append P [] ss [] fs a b = b
each-append P [] ss (e ∷ es) fs a b = absurd a
each-append P (r ∷ rs) ss [] fs a b = absurd a
each-append P (r ∷ rs) ss (e ∷ es) fs a b = (a.0, each-append P rs ss es fs a.1 b)

pub each-one : (P : Range → Node → Type 0) (e : Node) (o n : ℕ) (x : Node) → (n ≡ 0 → ⊥) → P (range e o n) x → AreEach P (some_of e o n) (x ∷ [])
each-one P e o n x nz is = subst (λ (rs : List Range). AreEach P rs (x ∷ [])) (sym (one-of e o n nz)) (is, tt)

-- ---- all bytes
pub pieces-whole : (ds : List Node) (o n : ℕ) → All (λ (d : Node). 0 < long d) ds → o ≡ 0 → sum_by long ds ≤ n → ArePieces (ranges ds o n) ds
pieces-whole [] o n all z fits = tt
pieces-whole (d ∷ ds) o n all z fits =
    let some : 0 < long d = all 0 d (omega arith) in
    let sum = sum_by-cons long d ds in
    let m : ℕ = min n (long d - o) in
    each-append IsPiece (some_of d o m) (ranges ds (o - long d) (n - (long d - o))) (d ∷ []) ds
    (each-one IsPiece d o m d (omega (arith, some, z, sum, fits)) (sym (piece-whole (number d) d o m (omega (arith, z, sum, fits)))))
    (pieces-whole ds (o - long d) (n - (long d - o)) (All-tail (λ (x : Node). 0 < long x) d ds all) (omega (arith, z)) (omega (arith, z, sum, fits)))

-- ---- texts
take-join : (n : ℕ) (a b : List ℕ) → take n (a ++ b) ≡ take n a ++ take (n - length a) b
take-join n a b = dite (dec_lt n (length a))
    (λ less.
    let z : 0 ≡ n - length a = omega (arith, less) in
    take-append-le n a b (omega (arith, less)) ∙ sym (ap (λ (k : ℕ). take n a ++ take k b) (sym z) ∙ append-none (take n a)))
    (λ more.
    let k : n ≡ length a + (n - length a) = omega (arith, more) in
    ap (λ (j : ℕ). take j (a ++ b)) k ∙ take-append-add a b (n - length a) ∙ sym (ap (λ (xs : List ℕ). xs ++ take (n - length a) b) (take_all n a (omega (arith, more)))))
  where
    append-none : (xs : List ℕ) → xs ++ [] ≡ xs
    append-none [] = refl
    append-none (x ∷ xs) = ap (λ (ys : List ℕ). x ∷ ys) (append-none xs)

drop-join : (o : ℕ) (a b : List ℕ) → drop o (a ++ b) ≡ drop o a ++ drop (o - length a) b
drop-join o a b = dite (dec_lt o (length a))
    (λ less.
    let z : 0 ≡ o - length a = omega (arith, less) in
    drop-append-le o a b (omega (arith, less)) ∙ ap (λ (k : ℕ). drop o a ++ drop k b) z)
    (λ more.
    let k : o ≡ length a + (o - length a) = omega (arith, more) in
    ap (λ (j : ℕ). drop j (a ++ b)) k ∙ drop-append-add a b (o - length a) ∙ sym (ap (λ (xs : List ℕ). xs ++ drop (o - length a) b) (drop_all o a (omega (arith, more)))))

take-few : (n l : ℕ) (a : List ℕ) → length a ≡ l → take n a ≡ take (min n l) a
take-few n l a e = dite (dec_lt l n)
    (λ more. take_all n a (omega (arith, more, e)) ∙ sym (take_all (min n l) a (omega (arith, more, e))))
    (λ less. let k : n ≡ min n l = omega (arith, less) in ap (λ (j : ℕ). take j a) k)

-- a range of two texts joined
pub range-join : (n o l : ℕ) (a b : List ℕ) → length a ≡ l → take n (drop o (a ++ b)) ≡ take (min n (l - o)) (drop o a) ++ take (n - (l - o)) (drop (o - l) b)
range-join n o l a b e =
    let left : length (drop o a) ≡ l - o = omega (arith, length-drop o a, e) in
    ap (take n) (drop-join o a b)
    ∙ take-join n (drop o a) (drop (o - length a) b)
    ∙ (λ i. take-few n (l - o) (drop o a) left i ++ take (n - left i) (drop (o - e i) b))

-- the pieces have the range of the joined texts
pub text-pieces : (ds : List Node) (o n : ℕ) (ps : List Node) → All (IsTreeAt 0) ds → ArePieces (ranges ds o n) ps → flat_map text ps ≡ take n (drop o (flat_map text ds))
text-pieces [] o n [] all are = sym (ap (take n) (drop-nil o) ∙ take-nil n)
text-pieces [] o n (p ∷ ps) all are = absurd are
text-pieces (d ∷ ds) o n ps all are =
    let tree : IsTreeAt 0 d = all 0 d (omega arith) in
    let rest = All-tail (IsTreeAt 0) d ds all in
    let m : ℕ = min n (long d - o) in
    let later : ℕ = o - long d in
    let left : ℕ = n - (long d - o) in
    let joined = range-join n o (long d) (text d) (flat_map text ds) (length-text 0 d tree) in
    dite (ℕ_discrete m 0)
    (λ z.
    let none : take m (drop o (text d)) ≡ [] = ap (λ (k : ℕ). take k (drop o (text d))) z in
    text-pieces ds later left ps rest (subst (λ (rs : List Range). ArePieces (rs ++ ranges ds later left) ps) (none-of d o m z) are)
    ∙ sym (joined ∙ ap (λ (xs : List ℕ). xs ++ take left (drop later (flat_map text ds))) none))
    (λ nz. first ps m later left (omega arith) (subst (λ (rs : List Range). ArePieces (rs ++ ranges ds later left) ps) (one-of d o m nz) are) (λ qs. text-pieces ds later left qs rest) tree ∙ sym joined)
  where
    first : (qs : List Node) (m later left : ℕ) → o + m ≤ long d → ArePieces (range d o m ∷ ranges ds later left) qs
        → ((zs : List Node) → ArePieces (ranges ds later left) zs → flat_map text zs ≡ take left (drop later (flat_map text ds))) → IsTreeAt 0 d
        → flat_map text qs ≡ take m (drop o (text d)) ++ take left (drop later (flat_map text ds))
    first [] m later left fits is go tree = absurd is
    first (q ∷ qs) m later left fits is go tree =
        let one : text q ≡ take m (drop o (text d)) = text-made q d o m is.0 tree fits in
        λ i. one i ++ go qs is.1 i
