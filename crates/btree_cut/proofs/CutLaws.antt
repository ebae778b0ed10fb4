-- What is cut of a node: the node itself, a piece of a data edge, and a Branch over what is cut of the edges.
use Rattle.std.proofs.Common.{ℕ, zero, suc, ◌≡◌, ◌+◌, ◌-◌, ◌<◌, ◌≤◌, min, List, [], ◌∷◌, ◌++◌, length, sum_by, map, refl, sym, ap, subst, ◌∙◌, get_or, arith, append-nil}
use Rattle.std.specs.List.{All, flat_map}
use Rattle.std.proofs.lemmas.List.{length-map}
use Rattle.std.proofs.lemmas.List.Sums.{sum_by-cons, sum_by-append}
use Rattle.std.proofs.lemmas.List.Elements.{All-append, All-cons, All-nil}
use Rattle.node_forest.specs.Forest.{children}
use Rattle.node_forest.specs.Label.{Node}
use Rattle.tree_shapes.specs.Keep.{part_of, touched, keep}
use Rattle.tree_shapes.specs.Shape.{Shape, level, branch_over}
use Rattle.tree_shapes.proofs.GrowthLaws.{node-some}
use Rattle.tree_shapes.proofs.KeepLaws.{parts-cut, AreTouched, touched-at, keep-whole, keep-above, keep-data, keeps}
use Rattle.node_edges.specs.Body.{IsBranchOf}
use Rattle.node_edges.specs.Text.{data_edges_at}
use Rattle.node_edges.specs.Trees.{shape_of, IsTreeAt}
use Rattle.node_edges.proofs.EdgeLaws.{children-shape, length-shape, sum-lengths, shape-branch}
use Rattle.node_edges.proofs.TreeLaws.{All-tail, branch-tree, edges-few, edges-trees, data_edges-branch}
use Rattle.edge_nodes.specs.Pieces.{piece_of}
use Rattle.btree_node.proofs.OpenLaws.{edges-length}
use Rattle.btree_node.proofs.ListLaws.{All-one}
use Rattle.chunk_reader.specs.Places.{long}
use Rattle.btree_cut.specs.Ranges.{Range, some_of, ranges, AreEach, IsPiece, ArePieces}
use Rattle.btree_cut.specs.Cutting.{IsCut, IsCutOf}
use Rattle.btree_cut.proofs.RangeLaws.{below, ranges-below, touched-ranges}
use Rattle.btree_cut.proofs.PieceLaws.{each-append, each-one, pieces-whole}

-- ---- the data edges of a tree
data-none : (e : Node) → data_edges_at 0 e ≡ e ∷ []
unfolding data_edges_at
data-none e = refl

pub data-above : (l : ℕ) (e : Node) → data_edges_at (suc l) e ≡ flat_map (data_edges_at l) (children e)
unfolding data_edges_at
data-above l e = refl

pub tree-some : (l : ℕ) (e : Node) → IsTreeAt l e → 0 < long e
tree-some l e tree = omega (arith, node-some l (shape_of e) tree.node, length-shape e)

sum-flat : (f : Node → List Node) (es : List Node) → All (λ (e : Node). sum_by long (f e) ≡ long e) es → sum_by long (flat_map f es) ≡ sum_by long es
sum-flat f [] all = refl
sum-flat f (e ∷ es) all =
    omega (arith, all 0 e (omega arith), sum_by-append long (f e) (flat_map f es), sum_by-cons long e es, sum-flat f es (All-tail (λ (x : Node). sum_by long (f x) ≡ long x) e es all))

pub total-data : (l : ℕ) (e : Node) → IsTreeAt l e → sum_by long (data_edges_at l e) ≡ long e
total-data zero e tree = ap (sum_by long) (data-none e) ∙ (let q : sum_by long (e ∷ []) ≡ long e = omega arith in q)
total-data (suc l) e tree =
    ap (sum_by long) (data-above l e)
    ∙ sum-flat (data_edges_at l) (children e) (λ k d lt. total-data l (get_or (children e) k d) (edges-trees l e tree k d lt))
    ∙ edges-length l e (children e) refl tree

pub totals : (l : ℕ) (es : List Node) → All (IsTreeAt l) es → All (λ (e : Node). sum_by long (data_edges_at l e) ≡ long e) es
totals l es all = λ k d lt. total-data l (get_or es k d) (all k d lt)

All-flat : (P : Node → Type 0) (f : Node → List Node) (es : List Node) → All (λ (e : Node). All P (f e)) es → All P (flat_map f es)
All-flat P f [] all = All-nil P
All-flat P f (e ∷ es) all = All-append P (f e) (flat_map f es) (all 0 e (omega arith)) (All-flat P f es (All-tail (λ (x : Node). All P (f x)) e es all))

pub data-trees : (l : ℕ) (e : Node) → IsTreeAt l e → All (IsTreeAt 0) (data_edges_at l e)
data-trees zero e tree = subst (All (IsTreeAt 0)) (sym (data-none e)) (All-one (IsTreeAt 0) e tree)
data-trees (suc l) e tree =
    subst (All (IsTreeAt 0)) (sym (data-above l e))
    (All-flat (IsTreeAt 0) (data_edges_at l) (children e) (λ k d lt. data-trees l (get_or (children e) k d) (edges-trees l e tree k d lt)))

pub all-some : (l : ℕ) (es : List Node) → All (IsTreeAt l) es → All (λ (e : Node). 0 < long e) es
all-some l es all = λ k d lt. tree-some l (get_or es k d) (all k d lt)

-- ---- all of a node
pub cut-whole : (l : ℕ) (t e : Node) (start n : ℕ) → IsTreeAt l t → start + n ≤ long t → n ≡ long t → e ≡ t → IsCut l t start n e
cut-whole l t e start n tree fits whole is =
    subst (IsCut l t start n) (sym is) (record {
      tree = tree;
      shape = sym (keep-whole part_of parts-cut l (shape_of t) start n (whole ∙ sym (length-shape t)));
      pieces = pieces-whole (data_edges_at l t) start n (all-some 0 (data_edges_at l t) (data-trees l t tree)) (omega (arith, fits, whole)) (omega (arith, whole, total-data l t tree));
    })

-- ---- a piece of a data edge
pub cut-data : (t e : Node) (start n : ℕ) → 0 < n → start + n ≤ long t → IsTreeAt 0 e → shape_of e ≡ part_of (shape_of t) start n → e ≡ piece_of e.0.number t start n → IsCut 0 t start n e
cut-data t e start n some fits tree shape is = record {
  tree = tree;
  shape = shape ∙ sym (keep-data part_of parts-cut (shape_of t) start n);
  pieces =
      let m : min n (long t - start) ≡ n = omega (arith, fits) in
      subst (λ (ds : List Node). ArePieces (ranges ds start n) (data_edges_at 0 e)) (sym (data-none t))
      (subst (λ (es : List Node). ArePieces (some_of t start (min n (long t - start)) ++ []) es) (sym (data-none e))
      (subst (λ (k : ℕ). ArePieces (some_of t start k ++ []) (e ∷ [])) (sym m)
      (subst (λ (rs : List Range). ArePieces rs (e ∷ [])) (sym (append-nil (some_of t start n))) (each-one IsPiece t start n e (omega (arith, some)) is))));
}

-- ---- a Branch
-- what is cut of ranges is of their level, and has the shapes that the rules give
each-trees : (l : ℕ) (rs : List Range) (cs : List Node) → AreEach (IsCutOf l) rs cs → All (IsTreeAt l) cs
each-trees l [] [] each = All-nil (IsTreeAt l)
each-trees l [] (c ∷ cs) each = absurd each
each-trees l (r ∷ rs) [] each = absurd each
each-trees l (r ∷ rs) (c ∷ cs) each = All-cons (IsTreeAt l) c cs each.0.tree (each-trees l rs cs each.1)

pub cut-trees : (l : ℕ) (rs : List Range) (cs : List Node) → AreEach (IsCutOf l) rs cs → All (IsTreeAt l) cs
cut-trees l rs cs each = each-trees l rs cs each

each-shapes : (l : ℕ) (rs : List Range) (cs : List Node) → AreEach (IsCutOf l) rs cs → map shape_of cs ≡ map (λ (r : Range). keep l (shape_of r.node) r.start r.size) rs
each-shapes l [] [] each = refl
each-shapes l [] (c ∷ cs) each = absurd each
each-shapes l (r ∷ rs) [] each = absurd each
each-shapes l (r ∷ rs) (c ∷ cs) each = λ i. each.0.shape i ∷ each-shapes l rs cs each.1 i

each-pieces : (l : ℕ) (rs : List Range) (cs : List Node) → AreEach (IsCutOf l) rs cs → ArePieces (flat_map (below (data_edges_at l)) rs) (flat_map (data_edges_at l) cs)
each-pieces l [] [] each = tt
each-pieces l [] (c ∷ cs) each = absurd each
each-pieces l (r ∷ rs) [] each = absurd each
each-pieces l (r ∷ rs) (c ∷ cs) each =
    each-append IsPiece (below (data_edges_at l) r) (flat_map (below (data_edges_at l)) rs) (data_edges_at l c) (flat_map (data_edges_at l) cs) each.0.pieces (each-pieces l rs cs each.1)

module _ (l : ℕ) (t : Node) (start n : ℕ) (tree : IsTreeAt (suc l) t) (some : 0 < n) (fits : start + n ≤ long t) (cs : List Node) (each : AreEach (IsCutOf l) (ranges (children t) start n) cs) where
  shapes-cut : map shape_of cs ≡ touched (keep l) (children (shape_of t)) start n
  shapes-cut = each-shapes l (ranges (children t) start n) cs each ∙ (sym (touched-ranges (keep l) (children t) start n some) ∙ ap (λ (ss : List Shape). touched (keep l) ss start n) (sym (children-shape t)))

  are-touched : AreTouched l n (children (shape_of t)) (map shape_of cs)
  are-touched =
      subst (AreTouched l n (children (shape_of t))) (sym shapes-cut)
      (touched-at l (keep l) (keeps part_of parts-cut l) (children (shape_of t)) start n tree.node.below some (omega (arith, fits, tree.node.long, length-shape t)))

  -- 1 to 6 nodes, together of the range's length
  pub cut-some : 0 < length cs
  cut-some = omega (arith, are-touched.some, length-map cs shape_of)

  pub cut-few : length cs ≤ 6
  cut-few = omega (arith, are-touched.few, length-map cs shape_of, length-map (children t) shape_of, ap (λ (ss : List Shape). length ss) (children-shape t), edges-few l t tree)

  pub cut-long : sum_by long cs ≡ n
  cut-long = sym (sum-lengths cs) ∙ are-touched.long

  pub cut-branch : (e : Node) → (n ≡ long t → ⊥) → IsBranchOf l cs e → IsCut (suc l) t start n e
  cut-branch e less is = record {
    tree = branch-tree e l cs is cut-some cut-few (each-trees l (ranges (children t) start n) cs each);
    shape =
        let at : level (shape_of t) - 1 ≡ l = omega (arith, tree.at) in
        shape-branch e l cs is
        ∙ (ap (branch_over l) shapes-cut
        ∙ (ap (λ (h : ℕ). branch_over h (touched (keep l) (children (shape_of t)) start n)) (sym at)
        ∙ sym (keep-above part_of parts-cut l (shape_of t) start n (λ same. less (same ∙ length-shape t)))));
    pieces =
        subst (λ (rs : List Range). ArePieces rs (data_edges_at (suc l) e))
        (sym (ap (λ (ds : List Node). ranges ds start n) (data-above l t) ∙ ranges-below (data_edges_at l) (children t) start n (totals l (children t) (edges-trees l t tree))))
        (subst (ArePieces (flat_map (below (data_edges_at l)) (ranges (children t) start n))) (sym (data_edges-branch e l cs is l)) (each-pieces l (ranges (children t) start n) cs each));
  }
