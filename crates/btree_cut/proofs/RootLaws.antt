-- What is cut of a whole tree.
use Rattle.std.proofs.Common.{ℕ, zero, suc, ◌≡◌, ◌+◌, ◌-◌, ◌<◌, ◌≤◌, Bool, true, false, cond, eqb, ltb, List, length, refl, sym, ap, subst, ◌∙◌, take, drop, arith, eq-eqb, ne_eqb}
use Rattle.std.specs.Prelude.{◌&&◌}
use Rattle.std.proofs.lemmas.Bool.{lt-ltb}
use Rattle.std.proofs.lemmas.List.{take_all, length-drop}
use mathlib.Core.Logic.{dite}
use native.Mathlib.Decide.{ℕ_discrete}
use Rattle.node_forest.specs.Forest.{children}
use Rattle.node_forest.specs.Label.{Node}
use Rattle.tree_shapes.specs.Keep.{part_of, keep, lowered, kept, kept_in_front, is_single}
use Rattle.tree_shapes.specs.Room.{IsRooted}
use Rattle.tree_shapes.specs.Shape.{Shape, level, length_of, IsNode, IsTree}
use Rattle.tree_shapes.proofs.KeepLaws.{if_false, parts-cut, keeps}
use Rattle.tree_shapes.proofs.RangeLaws.{kept-lowered, kept-length}
use Rattle.tree_shapes.proofs.ShapeLaws.{level-node}
use Rattle.node_edges.specs.Text.{text, data_edges_at}
use Rattle.node_edges.specs.Trees.{shape_of, IsFilled, IsTreeAt}
use Rattle.node_edges.proofs.EdgeLaws.{length-shape}
use Rattle.node_edges.proofs.TextLaws.{length-text}
use Rattle.node_edges.proofs.TreeLaws.{text-data_edges}
use Rattle.btree_node.specs.Adding.{data_edges}
use Rattle.chunk_reader.specs.Places.{long}
use Rattle.btree_cut.specs.Ranges.{Range, ranges, ArePieces}
use Rattle.btree_cut.specs.Cutting.{IsCut, IsLowest}
use Rattle.btree_cut.proofs.CutLaws.{data-trees}
use Rattle.btree_cut.proofs.PieceLaws.{text-pieces}

pub root-at : (t : Node) → IsTree (shape_of t) → IsFilled t → IsTreeAt (level (shape_of t)) t
root-at t root full = record { at = refl; node = root.node; filled = full }

module _ (t : Node) (start n m : ℕ) (low : Node) (from : ℕ) (e : Node) (root : IsTree (shape_of t)) (full : IsFilled t) (some : 0 < n) (fits : start + n ≤ long t)
    (is : IsLowest (level (shape_of t)) t start n m low from) (cut : IsCut m low from n e) where
  pub kept-shape : shape_of e ≡ kept (shape_of t) start n
  kept-shape = cut.shape ∙ sym is.shape

  pub kept-tree : IsTree (shape_of e)
  kept-tree =
      let l = kept-lowered (shape_of t) start n root.node some (omega (arith, fits, length-shape t)) in
      let r : IsRooted (shape_of e) = subst IsRooted (sym kept-shape) l.root in
      record { node = r.node; low = omega (arith, ap level kept-shape, l.low, root.low); wide = r.wide }

  pub kept-long : e.0.length ≡ n
  kept-long =
      sym (length-shape e)
      ∙ (ap length_of kept-shape ∙ kept-length (shape_of t) start n root.node some (omega (arith, fits, length-shape t)))

  pieces-at : ArePieces (ranges (data_edges t) start n) (data_edges_at m e)
  pieces-at = subst (λ (rs : List Range). ArePieces rs (data_edges_at m e)) (sym is.pieces) cut.pieces

  pub kept-pieces : ArePieces (ranges (data_edges t) start n) (data_edges e)
  kept-pieces = subst (λ (l : ℕ). ArePieces (ranges (data_edges t) start n) (data_edges_at l e)) (sym cut.tree.at) pieces-at

  pub kept-text : text e ≡ take n (drop start (text t))
  kept-text =
      let tree = root-at t root full in
      text-data_edges m e cut.tree
      ∙ text-pieces (data_edges t) start n (data_edges_at m e) (data-trees (level (shape_of t)) t tree) pieces-at
      ∙ ap (λ (xs : List ℕ). take n (drop start xs)) (sym (text-data_edges (level (shape_of t)) t tree))

-- ---- cuts at one end
pub text-front : (t : Node) (n : ℕ) → IsTree (shape_of t) → IsFilled t → take (long t - n) (drop n (text t)) ≡ drop n (text t)
text-front t n root full = take_all (long t - n) (drop n (text t)) (omega (arith, length-drop n (text t), length-text (level (shape_of t)) t (root-at t root full)))

lowered-zero : (l : ℕ) (s : Shape) → l ≡ 0 → lowered l s ≡ s
unfolding lowered
lowered-zero zero s z = refl
lowered-zero (suc l) s z = absurd (omega (arith, z))

lowered-wide : (l : ℕ) (s : Shape) → (length (children s) ≡ 1 → ⊥) → lowered l s ≡ s
unfolding lowered
lowered-wide zero s more = refl
lowered-wide (suc l) s more = if_false (eqb (length (children s)) 1) _ s (ne_eqb (length (children s)) 1 more)

and-false : (a b : Bool) → (a && b) ≡ false → a ≡ true → b ≡ true → ⊥
and-false true true e is_true is_so = absurd (cc)
and-false true false e is_true is_so = absurd (cc)
and-false false b e is_true is_so = absurd (cc)

wide-same : (l : ℕ) (s : Shape) → level s ≡ l → is_single s ≡ false → lowered l s ≡ s
wide-same l s at other = dite (ℕ_discrete l 0)
    (λ z. lowered-zero l s z)
    (λ nz. lowered-wide l s (λ one. and-false (ltb 0 (level s)) (eqb (length (children s)) 1) other (lt-ltb 0 (level s) (omega (arith, at, nz))) (eq-eqb (length (children s)) 1 one)))

-- where no flat is shortened, that of the front is what the rules keep of any range
pub front-kept : (s : Shape) (n : ℕ) → IsNode (level s) s → 0 < n → n ≤ length_of s → kept s 0 n ≡ kept_in_front false s n
front-kept s n node some fits = go (is_single (keep (level s) s 0 n)) refl
  where
    at : level (keep (level s) s 0 n) ≡ level s
    at = level-node (level s) (keep (level s) s 0 n) ((keeps part_of parts-cut (level s)).node s 0 n node some (omega (arith, fits)))

    go : (b : Bool) → is_single (keep (level s) s 0 n) ≡ b → kept s 0 n ≡ cond b (kept s 0 n) (keep (level s) s 0 n)
    go true e = refl
    go false e = wide-same (level s) (keep (level s) s 0 n) at e
