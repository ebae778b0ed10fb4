-- A Branch over shared edges and one that was made, as the rules see it.
use Rattle.std.proofs.Common.{ℕ, suc, ◌≡◌, ◌+◌, ◌<◌, List, [], ◌∷◌, ◌++◌, length, sym, ap, subst, ◌∙◌, Option, None}
use Rattle.node_forest.specs.declared.side.Side.{Side}
use Rattle.node_forest.specs.Forest.{children}
use Rattle.node_forest.specs.Label.{Node}
use Rattle.node_edges.specs.Body.{IsBranchOf}
use Rattle.node_edges.specs.Text.{data_edges_at}
use Rattle.node_edges.specs.Trees.{shape_of, IsTreeAt}
use Rattle.pool_rule.specs.Views.{View}
use Rattle.tree_shapes.specs.Growth.{beside, wrapped, grown}
use Rattle.tree_shapes.specs.Shape.{Shape}
use Rattle.btree_node.specs.Made.{IsMadeFrom}
use Rattle.btree_node.specs.Adding.{kept_below, IsTreeOver, IsGrownTo, IsTopped}
use Rattle.btree_node.specs.Opening.{IsOutermost}
use Rattle.btree_node.proofs.GrowLaws.{IsRaised, raised-made, grown-exchanged, grown-more, kept-grown, kept-here}
use Rattle.btree_node.proofs.MadeLaws.{made-under}

-- ---- an edge more
pub topped-of : (side : Side) (l s : ℕ) (x top e : Node) (edges own : List Node) → own ≡ top ∷ [] → IsTreeOver (l + s) (wrapped s (shape_of x)) (data_edges_at l x) top → IsBranchOf (l + s) (beside side edges own) e → IsTopped side l s edges x e
topped-of side l s x top e edges own is over branch = record { top = top; over = over; branch = subst (λ (zs : List Node). IsBranchOf (l + s) (beside side edges zs) e) is branch }

pub topped-from : (side : Side) (v w z : View) (x top e : Node) (edges own : List Node) → own ≡ top ∷ [] → IsMadeFrom [] (x ∷ []) v w top → IsMadeFrom own (beside side edges own) w z e → IsMadeFrom [] (edges ++ x ∷ []) v z e
topped-from side v w z x top e edges own is first made =
    made-under side v w z (x ∷ []) edges top e first (subst (λ (zs : List Node). IsMadeFrom zs (beside side edges zs) w z e) is made)

pub raised-topped : (side : Side) (l s : ℕ) (t x e : Node) (root : List Node) → root ≡ t ∷ [] → IsTreeAt (l + s) t → IsTopped side l s root x e → IsRaised side l s t x e
raised-topped side l s t x e root is tree p = raised-made side l s t x p.top e tree p.over (subst (λ (zs : List Node). IsBranchOf (l + s) (beside side zs (p.top ∷ [])) e) is p.branch)

-- ---- one level of a tree
module _ (side : Side) (meet : Shape → Option Shape) (l s n : ℕ) (up : suc s ≡ n) (m x last : Node) (siblings : List Node) (tree : IsTreeAt (suc (l + s)) m) (o : IsOutermost side (l + s) m siblings last) where
  pub exchanged-of : (c e : Node) (own : List Node) → own ≡ c ∷ [] → IsGrownTo meet side l s last x c → IsBranchOf (l + s) (beside side siblings own) e → IsGrownTo meet side l n m x e
  exchanged-of c e own is g branch = subst (λ (k : ℕ). IsGrownTo meet side l k m x e) up (grown-exchanged side meet l s m x last siblings tree o c e g (subst (λ (zs : List Node). IsBranchOf (l + s) (beside side siblings zs) e) is branch))

  pub exchanged-from : (v w z : View) (c e : Node) (own : List Node) → own ≡ c ∷ [] → IsGrownTo meet side l s last x c → IsMadeFrom [] (kept_below side meet s last x) v w c → IsMadeFrom own (beside side siblings own) w z e → IsMadeFrom [] (kept_below side meet n m x) v z e
  exchanged-from v w z c e own is g first made =
      let under : IsMadeFrom (c ∷ []) (beside side siblings (c ∷ [])) w z e = subst (λ (zs : List Node). IsMadeFrom zs (beside side siblings zs) w z e) is made in
      subst (λ (ks : List Node). IsMadeFrom [] ks v z e) (sym (kept-grown side meet l s m x last siblings tree o (shape_of c) g.shape) ∙ ap (λ (k : ℕ). kept_below side meet k m x) up)
      (made-under side v w z (kept_below side meet s last x) siblings c e first under)

  pub more-of : (e : Node) (edges : List Node) → edges ≡ children m → grown side meet s (shape_of last) (shape_of x) ≡ None → length siblings < 5 → IsTopped side l s edges x e → IsGrownTo meet side l n m x e
  more-of e edges same none few p = subst (λ (k : ℕ). IsGrownTo meet side l k m x e) up (grown-more side meet l s m x last siblings tree o p.top e edges same none few p.over p.branch)

  pub more-from : (v z : View) (e : Node) (edges : List Node) → edges ≡ children m → grown side meet s (shape_of last) (shape_of x) ≡ None → IsMadeFrom [] (edges ++ x ∷ []) v z e → IsMadeFrom [] (kept_below side meet n m x) v z e
  more-from v z e edges same none made =
      subst (λ (ks : List Node). IsMadeFrom [] ks v z e) (ap (λ (es : List Node). es ++ x ∷ []) same ∙ (sym (kept-here side meet l s m x last siblings tree o none) ∙ ap (λ (k : ℕ). kept_below side meet k m x) up)) made
