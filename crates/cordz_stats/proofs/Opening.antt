-- What a walk finds where it opens a node: the tree below a sum, a part's child, and the edges of a branch.
use Rattle.std.specs.Global.{Vec}
use Rattle.std.proofs.Common.{◌≡◌, ℕ, suc, ◌+◌, ◌<◌, ◌≤◌, List, length, sum_by, get_or, Some, refl, sym, ap, subst, ◌∙◌, arith}
use Rattle.std.specs.List.{All}
use Rattle.std.proofs.lemmas.List.Sums.{get_or-le-sum_by}
use Rattle.node_forest.specs.Forest.{children, node_count}
use Rattle.node_forest.specs.Label.{Node}
use Rattle.node_edges.specs.declared.edge.Body.{Body}
use Rattle.node_edges.specs.declared.edge.Body.TheVariants.{Flat, External, Part, Sum, Branch}
use Rattle.node_edges.specs.Body.{node_with, HasBody, IsNodeOf}
use Rattle.node_edges.specs.Trees.{shape_of, IsFilled, IsTreeAt, IsWellFormed}
use Rattle.node_edges.proofs.BodyLaws.{part-child}
use Rattle.node_edges.proofs.EdgeLaws.{branch-body, children-branch, level-branch}
use Rattle.node_edges.proofs.TreeLaws.{edges-trees}
use Rattle.node_edges.proofs.WayLaws.{nodes-edges}
use Rattle.tree_shapes.specs.Shape.{level, IsSource, IsTree}
use Rattle.cordz_stats.specs.Tallies.{budget}
use Rattle.cordz_stats.proofs.Walks.{budget-edges}

-- the number of a level, written otherwise
at-level : (l : ℕ) (e : Node) → level (shape_of e) ≡ l → IsTreeAt (level (shape_of e)) e → IsTreeAt l e
at-level l e same t = subst (λ n. IsTreeAt n e) same t

own-level : (l : ℕ) (e : Node) → IsTreeAt l e → IsTreeAt (level (shape_of e)) e
own-level l e t = subst (λ n. IsTreeAt n e) (sym t.at) t

-- ---- a part
part-level : (e : Node) (start n : ℕ) (child : Node) → HasBody e (Part start n child) → level (shape_of e) ≡ 0
unfolding shape_of level
part-level e start n child is = ap (λ (t : Node). level (shape_of t)) is

pub part-source : (e : Node) (b : Body) (start n : ℕ) (child : Node) → IsNodeOf b e → b ≡ Part start n child → IsTreeAt (level (shape_of e)) e
    → IsSource child.0.kind (shape_of child).0
part-source e b start n child is same t =
    let here = subst (λ (z : Body). IsNodeOf z e) same is in
    (part-child e start n child here (at-level 0 e (part-level e start n child here.body) t)).source

-- ---- a sum stands in no tree
sum-no_tree : (n l value : ℕ) (child : _) → IsTreeAt 0 (node_with n l (Sum value child)) → ⊥
unfolding shape_of
sum-no_tree n l value child t = t.node

sum-level : (e : Node) (value : ℕ) (child : _) → HasBody e (Sum value child) → level (shape_of e) ≡ 0
unfolding shape_of level
sum-level e value child is = ap (λ (t : Node). level (shape_of t)) is

pub no-sum : (e : Node) (b : Body) (value : ℕ) (child : _) → HasBody e b → b ≡ Sum value child → IsTreeAt (level (shape_of e)) e → ⊥
no-sum e b value child is same t =
    let here = subst (HasBody e) same is in
    sum-no_tree e.0.number e.0.length value child (subst (IsTreeAt 0) here (at-level 0 e (sum-level e value child here) t))

-- ---- the root
-- a tree that is not higher than it may be
pub record IsLow (e : Node) : Type 0 where
  pub tree : IsTreeAt (level (shape_of e)) e
  pub low : level (shape_of e) ≤ 12

pub record IsBelow (l : ℕ) (c : Node) : Type 0 where
  pub long : l ≡ c.0.length
  pub whole : IsLow c

sum-child : (n l value : ℕ) (c : Node) → IsWellFormed (node_with n l (Sum value (Some c))) → IsBelow l c
unfolding shape_of IsFilled
sum-child n l value c w = record {
  long = w.root.0;
  whole = record {
    tree = record { at = refl; node = w.root.1.node; filled = (w.filled.1.0, w.filled.1.1) };
    low = w.root.1.low;
  };
}

pub below-sum : (e : Node) (b : Body) (value : ℕ) (child : _) (c : Node) → HasBody e b → b ≡ Sum value child → child ≡ Some c → IsWellFormed e
    → IsBelow e.0.length c
below-sum e b value child c is same some w =
    let here = subst (HasBody e) (same ∙ ap (Sum value) some) is in
    sum-child e.0.number e.0.length value c (subst IsWellFormed here w)

other-root : (n l : ℕ) (b : Body) → ((value : ℕ) (child : _) → b ≡ Sum value child → ⊥) → IsWellFormed (node_with n l b) → IsTree (shape_of (node_with n l b))
unfolding shape_of
other-root n l (Flat bytes room) others w = w.root
other-root n l (External bytes slot) others w = w.root
other-root n l (Part start long child) others w = w.root
other-root n l (Sum value child) others w = absurd (others value child refl)
other-root n l (Branch h es) others w = w.root

pub whole-tree : (e : Node) (b : Body) → HasBody e b → ((value : ℕ) (child : _) → b ≡ Sum value child → ⊥) → IsWellFormed e → IsLow e
whole-tree e b is others w =
    let tree = subst (λ (t : Node). IsTree (shape_of t)) (sym is) (other-root e.0.number e.0.length b others (subst IsWellFormed is w)) in
    record { tree = record { at = refl; node = tree.node; filled = w.filled }; low = tree.low }

-- ---- a Branch
pub record IsOver (h : ℕ) (e : Node) (es : List Node) : Type 0 where
  pub same : children e ≡ es
  pub tree : IsTreeAt (suc h) e
  pub long : e.0.length ≡ sum_by (λ (c : Node). c.0.length) es
  pub trees : All (IsTreeAt h) es

pub opened : (e : Node) (b : Body) (h : ℕ) (edges : Vec Node) (es : List Node) → IsNodeOf b e → b ≡ Branch h edges → es ≡ edges.items
    → IsTreeAt (level (shape_of e)) e → IsOver h e es
opened e b h edges es is same items t =
    let here = branch-body e h edges (subst (λ (z : Body). IsNodeOf z e) same is) in
    let below : children e ≡ es = children-branch e h edges.items here ∙ sym items in
    let tree = at-level (suc h) e (level-branch e h edges.items here) t in
    record {
      same = below;
      tree = tree;
      long = here.long ∙ ap (sum_by (λ (c : Node). c.0.length)) (sym items);
      trees = subst (All (IsTreeAt h)) below (edges-trees h e tree);
    }

module _ (h : ℕ) (e : Node) (es : List Node) (o : IsOver h e es) where
  pub edges-within : 64 + sum_by budget es ≤ budget e
  edges-within = budget-edges h e es o.tree o.long (λ k d lt. (o.trees k d lt).at)

  module _ (i : ℕ) (c : Node) (lt : i < length es) (at : c ≡ get_or es i c) where
    pub child-tree : IsTreeAt (level (shape_of c)) c
    child-tree = own-level h c (subst (IsTreeAt h) (sym at) (o.trees i c lt))

    pub child-short : c.0.length ≤ e.0.length
    child-short =
        let one = get_or-le-sum_by (λ (x : Node). x.0.length) es i c lt in
        omega (arith, one, ap (λ (x : Node). x.0.length) at, o.long)

    pub fewer-below : node_count c.1 < node_count e.1
    fewer-below =
        let one = get_or-le-sum_by (λ (t : Node). node_count t.1 + 1) es i c lt in
        omega (arith, one, ap (λ (t : Node). node_count t.1) at, ap (sum_by (λ (t : Node). node_count t.1 + 1)) o.same, nodes-edges e)
