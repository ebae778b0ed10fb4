-- Which of two trees is added to the other.
use Rattle.std.proofs.Common.{◌≡◌, ◌≤◌, ◌<◌, Bool, true, false, cond, leb, List, ◌++◌, refl, sym, ap, ◌∙◌}
use Rattle.std.proofs.lemmas.Bool.{le-leb, lt-leb}
use Rattle.node_forest.specs.declared.side.Side.{Side}
use Rattle.node_forest.specs.declared.side.Side.TheVariants.{Front, Back}
use Rattle.node_forest.specs.Label.{Node}
use Rattle.node_edges.specs.Text.{text}
use Rattle.node_edges.specs.Trees.{shape_of}
use Rattle.tree_shapes.specs.Growth.{beside, added_by}
use Rattle.tree_shapes.specs.Merge.{across, meeting, joined}
use Rattle.tree_shapes.specs.Shape.{Shape, level}
use Rattle.btree_node.specs.Adding.{data_edges, kept_added, IsAdded}
use Rattle.btree_merge.specs.Merging.{kept_merged, IsMerged}

beside-across : {X : Type 0} (side : Side) (a b : List X) → beside (across side) b a ≡ beside side a b
beside-across Front a b = refl
beside-across Back a b = refl

module _ (side : Side) (t x : Node) where
  pub joined-low : level (shape_of x) ≤ level (shape_of t) → joined side (shape_of t) (shape_of x) ≡ added_by (meeting side (shape_of x)) side (shape_of t) (shape_of x)
  joined-low low = ap (λ (b : Bool). cond b (added_by (meeting side (shape_of x)) side (shape_of t) (shape_of x)) (added_by (meeting (across side) (shape_of t)) (across side) (shape_of x) (shape_of t))) (le-leb (level (shape_of x)) (level (shape_of t)) low)

  pub joined-high : level (shape_of t) < level (shape_of x) → joined side (shape_of t) (shape_of x) ≡ added_by (meeting (across side) (shape_of t)) (across side) (shape_of x) (shape_of t)
  joined-high high = ap (λ (b : Bool). cond b (added_by (meeting side (shape_of x)) side (shape_of t) (shape_of x)) (added_by (meeting (across side) (shape_of t)) (across side) (shape_of x) (shape_of t))) (lt-leb (level (shape_of x)) (level (shape_of t)) high)

  pub kept-low : level (shape_of x) ≤ level (shape_of t) → kept_merged side t x ≡ kept_added (meeting side (shape_of x)) side t x
  kept-low low = ap (λ (b : Bool). cond b (kept_added (meeting side (shape_of x)) side t x) (kept_added (meeting (across side) (shape_of t)) (across side) x t)) (le-leb (level (shape_of x)) (level (shape_of t)) low)

  pub kept-high : level (shape_of t) < level (shape_of x) → kept_merged side t x ≡ kept_added (meeting (across side) (shape_of t)) (across side) x t
  kept-high high = ap (λ (b : Bool). cond b (kept_added (meeting side (shape_of x)) side t x) (kept_added (meeting (across side) (shape_of t)) (across side) x t)) (lt-leb (level (shape_of x)) (level (shape_of t)) high)

  pub merged-low : (e : Node) → level (shape_of x) ≤ level (shape_of t) → IsAdded (meeting side (shape_of x)) side t x e → IsMerged side t x e
  merged-low e low a = record { shape = a.shape ∙ sym (joined-low low); tree = a.tree; filled = a.filled; data_edges = a.data_edges; text = a.text }

  pub merged-high : (e : Node) → level (shape_of t) < level (shape_of x) → IsAdded (meeting (across side) (shape_of t)) (across side) x t e → IsMerged side t x e
  merged-high e high a = record {
    shape = a.shape ∙ sym (joined-high high);
    tree = a.tree;
    filled = a.filled;
    data_edges = a.data_edges ∙ beside-across side (data_edges t) (data_edges x);
    text = a.text ∙ beside-across side (text t) (text x);
  }
