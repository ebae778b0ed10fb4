-- Where a range lies under a single edge, and what a root of one edge is dropped for.
use Rattle.std.proofs.Common.{ℕ, suc, ◌≡◌, ◌+◌, ◌-◌, ◌<◌, ◌≤◌, min, eqb, List, [], ◌∷◌, ◌++◌, length, sum_by, map, refl, sym, ap, subst, ◌∙◌, get_or, arith, append-nil, eq-eqb, ne_eqb}
use Rattle.std.specs.List.{All, Contains, flat_map}
use Rattle.std.proofs.lemmas.List.{length-append, length-map}
use Rattle.std.proofs.lemmas.List.Sums.{sum_by-cons}
use mathlib.Core.Logic.{dite}
use native.Mathlib.Decide.{ℕ_discrete, dec_lt}
use Rattle.node_forest.specs.declared.side.Side.TheVariants.{Front}
use Rattle.node_forest.specs.Forest.{children}
use Rattle.node_forest.specs.Label.{Node}
use Rattle.tree_shapes.specs.Growth.{outermost}
use Rattle.tree_shapes.specs.Keep.{part_of, touched, keep, lowered}
use Rattle.tree_shapes.specs.Shape.{Shape, level}
use Rattle.tree_shapes.proofs.GrowthLaws.{edges-over}
use Rattle.tree_shapes.proofs.KeepLaws.{if_true, if_false, parts-cut, keep-whole, keep-above}
use Rattle.node_edges.specs.Text.{data_edges_at}
use Rattle.node_edges.specs.Trees.{shape_of, IsTreeAt}
use Rattle.node_edges.proofs.EdgeLaws.{children-shape, length-shape}
use Rattle.node_edges.proofs.TreeLaws.{edges-few, edges-trees}
use Rattle.pool_rule.specs.Trades.{itself, below}
use Rattle.pool_rule.proofs.Trades.{IsWithin-trans}
use Rattle.btree_node.proofs.OpenLaws.{edges-length}
use Rattle.chunk_reader.specs.Places.{long, place_in, IsPlace}
use Rattle.chunk_reader.proofs.PlaceLaws.{place-here, place-beyond, placed}
use Rattle.btree_cut.specs.Ranges.{Range, some_of, ranges}
use Rattle.btree_cut.specs.Cutting.{kept_at, kept_from, alone, IsLowest}
use Rattle.btree_cut.proofs.RangeLaws.{range, none-of, one-of, ranges-zero, ranges-some, ranges-few, ranges-below, touched-ranges, all-ranges}
use Rattle.btree_cut.proofs.RangeLaws as laws
use Rattle.btree_cut.proofs.CutLaws.{data-above, totals, all-some}

-- ---- how many edges a range touches
-- all its bytes lie behind its start in the edge there
pub one-place : (es : List Node) (o n : ℕ) (d : Node) → 0 < n → o < sum_by long es → (place_in es o).1 + n ≤ long (get_or es (place_in es o).0 d) → ranges es o n ≡ range (get_or es (place_in es o).0 d) (place_in es o).1 n ∷ []
one-place [] o n d some inside fits = absurd (omega (arith, inside))
one-place (e ∷ es) o n d some inside fits =
    let sum = sum_by-cons long e es in
    let m : ℕ = min n (long e - o) in
    let later : ℕ = o - long e in
    let left : ℕ = n - (long e - o) in
    dite (dec_lt o (long e))
    (λ here.
    let at = place-here e es o here in
    let room : o + n ≤ long e = subst (λ (p : ℕ × ℕ). p.1 + n ≤ long (get_or (e ∷ es) p.0 d)) at fits in
    let k : m ≡ n = omega (arith, room) in
    (λ i. some_of e o (k i) ++ ranges-zero es later left (omega (arith, room)) i)
    ∙ append-nil (some_of e o n)
    ∙ one-of e o n (omega (arith, some))
    ∙ sym (ap (λ (p : ℕ × ℕ). range (get_or (e ∷ es) p.0 d) p.1 n ∷ []) at))
    (λ past.
    let at = place-beyond e es o (omega (arith, past)) in
    let q = place_in es later in
    let room : q.1 + n ≤ long (get_or es q.0 d) = subst (λ (p : ℕ × ℕ). p.1 + n ≤ long (get_or (e ∷ es) p.0 d)) at fits in
    let k : left ≡ n = omega (arith, past) in
    ap (λ (rs : List Range). rs ++ ranges es later left) (none-of e o m (omega (arith, past)))
    ∙ ap (ranges es later) k
    ∙ one-place es later n d some (omega (arith, sum, inside, past)) room
    ∙ sym (ap (λ (p : ℕ × ℕ). range (get_or (e ∷ es) p.0 d) p.1 n ∷ []) at))

-- or it goes on in the next edges
pub more-places : (es : List Node) (o n : ℕ) (d : Node) → o + n ≤ sum_by long es → o < sum_by long es → long (get_or es (place_in es o).0 d) < (place_in es o).1 + n → 2 ≤ length (ranges es o n)
more-places [] o n d fits inside more = absurd (omega (arith, inside))
more-places (e ∷ es) o n d fits inside more =
    let sum = sum_by-cons long e es in
    let m : ℕ = min n (long e - o) in
    let later : ℕ = o - long e in
    let left : ℕ = n - (long e - o) in
    let both = length-append (some_of e o m) (ranges es later left) in
    dite (dec_lt o (long e))
    (λ here.
    let at = place-here e es o here in
    let out : long e < o + n = subst (λ (p : ℕ × ℕ). long (get_or (e ∷ es) p.0 d) < p.1 + n) at more in
    let one = ap (λ (rs : List Range). length rs) (one-of e o m (omega (arith, here, out))) in
    let rest = ranges-some es later left (omega (arith, here, out)) (omega (arith, sum, here, out, fits)) in
    omega (arith, both, one, rest))
    (λ past.
    let at = place-beyond e es o (omega (arith, past)) in
    let q = place_in es later in
    let out : long (get_or es q.0 d) < q.1 + n = subst (λ (p : ℕ × ℕ). long (get_or (e ∷ es) p.0 d) < p.1 + n) at more in
    let k : left ≡ n = omega (arith, past) in
    let none = ap (λ (rs : List Range). length rs) (none-of e o m (omega (arith, past))) in
    let rest = more-places es later n d (omega (arith, sum, fits, past)) (omega (arith, sum, inside, past)) out in
    omega (arith, both, none, rest, ap (λ (j : ℕ). length (ranges es later j)) k))

pub alone-more : {X : Type 0} (rs : List Range) (f : Range → X) (x : X) → 2 ≤ length rs → alone rs f x ≡ x
alone-more [] f x more = absurd (omega (arith, more))
alone-more (r ∷ []) f x more = absurd (omega (arith, more))
alone-more (r ∷ q ∷ rs) f x more = refl

-- ---- roots of one edge
lowered-none : (s : Shape) → lowered 0 s ≡ s
unfolding lowered
lowered-none s = refl

lowered-one : (l : ℕ) (s e : Shape) → children s ≡ e ∷ [] → lowered (suc l) s ≡ lowered l e
unfolding lowered
lowered-one l s e is =
    let one : length (children s) ≡ 1 = ap (λ (ss : List Shape). length ss) is in
    if_true (eqb (length (children s)) 1) (lowered l (outermost Front s)) s (eq-eqb (length (children s)) 1 one)
    ∙ ap (λ (ss : List Shape). lowered l (get_or ss 0 s)) is

lowered-many : (l : ℕ) (s : Shape) → 2 ≤ length (children s) → lowered (suc l) s ≡ s
unfolding lowered
lowered-many l s many = if_false (eqb (length (children s)) 1) (lowered l (outermost Front s)) s (ne_eqb (length (children s)) 1 (omega (arith, many)))

-- ---- which trees are kept
pub kept-none : (e : Node) (start n : ℕ) → kept_from 0 e start n ≡ kept_at 0 e start n
unfolding kept_from
kept-none e start n = refl

pub kept-above : (l : ℕ) (e : Node) (start n : ℕ) → kept_from (suc l) e start n ≡ alone (ranges (children e) start n) (λ r. kept_from l r.node r.start r.size) (kept_at (suc l) e start n)
unfolding kept_from
kept-above l e start n = refl

-- ---- the lowest node
pub lowest-data : (t : Node) (start n : ℕ) → IsTreeAt 0 t → start + n ≤ long t → IsLowest 0 t start n 0 t start
lowest-data t start n tree fits = record {
  tree = tree;
  low = omega arith;
  fits = fits;
  within = itself;
  shape = lowered-none (keep 0 (shape_of t) start n);
  pieces = refl;
  kept = kept-none t start n;
}

module _ (l : ℕ) (t : Node) (start n : ℕ) (tree : IsTreeAt (suc l) t) (some : 0 < n) (fits : start + n ≤ long t) where
  keep-edges : (n ≡ long t → ⊥) → children (keep (suc l) (shape_of t) start n) ≡ map (λ (r : Range). keep l (shape_of r.node) r.start r.size) (ranges (children t) start n)
  keep-edges less =
      ap (λ (s : Shape). children s) (keep-above part_of parts-cut l (shape_of t) start n (λ same. less (same ∙ length-shape t)))
      ∙ (edges-over (level (shape_of t) - 1) (touched (keep l) (children (shape_of t)) start n)
      ∙ (ap (λ (ss : List Shape). touched (keep l) ss start n) (children-shape t)
      ∙ touched-ranges (keep l) (children t) start n some))

  pub lowest-here : 2 ≤ length (ranges (children t) start n) → IsLowest (suc l) t start n (suc l) t start
  lowest-here more = record {
    tree = tree;
    low = omega arith;
    fits = fits;
    within = itself;
    shape =
        dite (ℕ_discrete n (long t))
        (λ whole.
        let same = keep-whole part_of parts-cut (suc l) (shape_of t) start n (whole ∙ sym (length-shape t)) in
        lowered-many l (keep (suc l) (shape_of t) start n)
        (omega (arith, more, ranges-few (children t) start n, ap (λ (s : Shape). length (children s)) same, ap (λ (ss : List Shape). length ss) (children-shape t), length-map (children t) shape_of)))
        (λ less.
        lowered-many l (keep (suc l) (shape_of t) start n)
        (omega (arith, more, ap (λ (ss : List Shape). length ss) (keep-edges less), length-map (ranges (children t) start n) (λ (r : Range). keep l (shape_of r.node) r.start r.size))));
    pieces = refl;
    kept = kept-above l t start n ∙ alone-more (ranges (children t) start n) (λ r. kept_from l r.node r.start r.size) (kept_at (suc l) t start n) more;
  }

  single-edge : (es : List Node) (x : Node) (from : ℕ) → All (λ (e : Node). 0 < long e) es → start ≡ 0 → sum_by long es ≤ n → ranges es start n ≡ range x from n ∷ [] → (es ≡ x ∷ []) × (n ≡ long x)
  single-edge es x from all z whole is = go es (sym (all-ranges es start n all z whole) ∙ is)
    where
      go : (fs : List Node) → map (λ (e : Node). range e 0 (long e)) fs ≡ range x from n ∷ [] → (fs ≡ x ∷ []) × (n ≡ long x)
      go [] e = absurd (omega (arith, ap (λ (rs : List Range). length rs) e))
      go (f ∷ g ∷ gs) e = absurd (omega (arith, ap (λ (rs : List Range). length rs) e))
      go (f ∷ []) e =
          let r : range f 0 (long f) ≡ range x from n = ap (λ (rs : List Range). get_or rs 0 (range x from n)) e in
          let same : f ≡ x = ap (λ (q : Range). q.node) r in
          (ap (λ (y : Node). y ∷ []) same, sym (ap (λ (q : Range). q.size) r) ∙ ap long same)

  pub lowest-below : (x : Node) (from m : ℕ) (e : Node) (at : ℕ) → Contains (children t) x → ranges (children t) start n ≡ range x from n ∷ [] → IsLowest l x from n m e at → IsLowest (suc l) t start n m e at
  lowest-below x from m e at child one low = record {
    tree = low.tree;
    low = omega (arith, low.low);
    fits = low.fits;
    within = IsWithin-trans low.within (below child itself);
    shape =
        dite (ℕ_discrete n (long t))
        (λ whole.
        let same = keep-whole part_of parts-cut (suc l) (shape_of t) start n (whole ∙ sym (length-shape t)) in
        let single = single-edge (children t) x from (all-some l (children t) (edges-trees l t tree)) (omega (arith, whole, fits)) (omega (arith, whole, edges-length l t (children t) refl tree)) one in
        ap (lowered (suc l)) same
        ∙ lowered-one l (shape_of t) (shape_of x) (children-shape t ∙ ap (λ (es : List Node). map shape_of es) single.0)
        ∙ ap (lowered l) (sym (keep-whole part_of parts-cut l (shape_of x) from n (single.1 ∙ sym (length-shape x))))
        ∙ low.shape)
        (λ less.
        lowered-one l (keep (suc l) (shape_of t) start n) (keep l (shape_of x) from n) (keep-edges less ∙ ap (λ (rs : List Range). map (λ (r : Range). keep l (shape_of r.node) r.start r.size) rs) one)
        ∙ low.shape);
    pieces =
        ap (λ (ds : List Node). ranges ds start n) (data-above l t)
        ∙ ranges-below (data_edges_at l) (children t) start n (totals l (children t) (edges-trees l t tree))
        ∙ ap (flat_map (laws.below (data_edges_at l))) one
        ∙ append-nil (ranges (data_edges_at l x) from n)
        ∙ low.pieces;
    kept = kept-above l t start n ∙ ap (λ (rs : List Range). alone rs (λ r. kept_from l r.node r.start r.size) (kept_at (suc l) t start n)) one ∙ low.kept;
  }

-- ---- the edge in which the range starts
module _ (l : ℕ) (e : Node) (start n : ℕ) (tree : IsTreeAt (suc l) e) (some : 0 < n) (fits : start + n ≤ long e) (es : List Node) (kids : es ≡ children e) where
  pub inside-edges : start < sum_by long es
  inside-edges = omega (arith, edges-length l e es kids tree, some, fits)

  module _ (p : ℕ × ℕ) (at : p ≡ place_in es start) where
    place-of : IsPlace es start p.0 p.1
    place-of = subst (λ (q : ℕ × ℕ). IsPlace es start q.0 q.1) (sym at) (placed es start inside-edges)

    pub edge-there : p.0 < length es
    edge-there = place-of.within

    pub edge-few : p.0 < 6
    edge-few = omega (arith, edge-there, ap (λ (zs : List Node). length zs) kids, edges-few l e tree)

    module _ (x : Node) (is : x ≡ get_or es p.0 x) where
      pub edge-covers : p.1 < long x
      edge-covers = omega (arith, place-of.covers x, ap long is)

      pub edge-tree : IsTreeAt l x
      edge-tree = subst (IsTreeAt l) (sym is) (subst (All (IsTreeAt l)) (sym kids) (edges-trees l e tree) p.0 x edge-there)

      abbrev edge-place : ℕ × ℕ → Node
      edge-place q = get_or es q.0 x

      pub edge-below : (m : ℕ) (low : Node) (from : ℕ) → p.1 + n ≤ long x → IsLowest l x p.1 n m low from → IsLowest (suc l) e start n m low from
      edge-below m low from room lowest =
          lowest-below l e start n tree some fits x p.1 m low from
          (subst (λ (zs : List Node). Contains zs x) kids (p.0, edge-there, sym is))
          (subst (λ (zs : List Node). ranges zs start n ≡ range x p.1 n ∷ []) kids
          (subst (λ (q : ℕ × ℕ). ranges es start n ≡ range x q.1 n ∷ []) (sym at)
          (one-place es start n x some inside-edges (subst (λ (q : ℕ × ℕ). q.1 + n ≤ long (get_or es q.0 x)) at (omega (arith, room, ap long is))) ∙ ap (λ (y : Node). range y (place_in es start).1 n ∷ []) (ap edge-place (sym at) ∙ sym is))))
          lowest

      pub edge-more : long x < p.1 + n → IsLowest (suc l) e start n (suc l) e start
      edge-more more =
          lowest-here l e start n tree some fits
          (subst (λ (zs : List Node). 2 ≤ length (ranges zs start n)) kids
          (more-places es start n x (omega (arith, fits, edges-length l e es kids tree)) inside-edges (subst (λ (q : ℕ × ℕ). long (get_or es q.0 x) < q.1 + n) at (omega (arith, more, ap long is)))))
