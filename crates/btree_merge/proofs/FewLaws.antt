-- How many nodes a merging makes anew: one a level on the way, and one more.
use Rattle.std.proofs.Common.{ℕ, zero, suc, ◌≡◌, ◌+◌, ◌-◌, ◌<◌, ◌≤◌, Bool, true, false, cond, eqb, leb, List, [], ◌∷◌, ◌++◌, length, sum_by, map, set, get_or, refl, sym, ap, subst, ◌∙◌, Option, Some, None, arith}
use Rattle.std.specs.List.{All}
use Rattle.std.specs.Prelude.{unwrap_or, Result, Ok, Err, IfOk}
use Rattle.std.proofs.lemmas.List.Sums.{sum_by-append}
use Rattle.node_forest.specs.declared.side.Side.{Side}
use Rattle.node_forest.specs.declared.side.Side.TheVariants.{Front, Back}
use Rattle.node_forest.specs.Forest.{Forest, empty, grow, node_count, map_forest, children}
use Rattle.node_forest.specs.Label.{Label, Node}
use Rattle.tree_shapes.specs.Growth.{placed, beside, outer, outermost, with_edges, wrapped, with_edge, grown_from, grown, added_by}
use Rattle.tree_shapes.specs.Merge.{across, merged, meeting, joined}
use Rattle.tree_shapes.specs.Nodes as shapes
use Rattle.tree_shapes.specs.Shape.{Shape, level, branch_over, IsTree}
use Rattle.tree_shapes.proofs.GrowthLaws.{if_some}
use Rattle.tree_shapes.proofs.NodeLaws.{nodes-over, nodes-lifted}
use Rattle.tree_shapes.proofs.RoomLaws.{get-placed, set-placed, outermost-of, All-one_placed}
use Rattle.node_edges.specs.Trees.{form_of, shape_of, IsTreeAt, IsFilled}
use Rattle.node_edges.proofs.EdgeLaws.{children-shape}
use Rattle.node_edges.proofs.TreeLaws.{edges-some, edges-trees}
use Rattle.node_edges.proofs.WayLaws.{nodes-edges}
use Rattle.btree_node.specs.Adding.{kept_from, kept_below, kept_added, IsAdded}
use Rattle.btree_node.specs.Made.{nodes_in, nodes_of_all, IsMadeFrom}
use Rattle.btree_node.specs.Opening.{last_of, others_in}
use Rattle.btree_node.proofs.GrowLaws.{kept-zero, root-at}
use Rattle.btree_node.proofs.ListLaws.{sum-beside, map-placed}
use Rattle.btree_node.proofs.OpenLaws.{others-is}

count-map : (cs : Forest Label) → node_count (map_forest form_of cs) ≡ node_count cs
count-map empty = refl
count-map (grow l cs rest) = omega (arith, count-map cs, count-map rest)

-- a shape has as many nodes as its tree
nodes-shape : (e : Node) → shapes.nodes_in (shape_of e) ≡ nodes_in e
unfolding shape_of
nodes-shape e = omega (arith, count-map e.1)

nodes-map : (es : List Node) → sum_by shapes.nodes_in (map shape_of es) ≡ nodes_of_all es
nodes-map [] = refl
nodes-map (e ∷ es) = omega (arith, nodes-shape e, nodes-map es, sum_by-append shapes.nodes_in (shape_of e ∷ []) (map shape_of es), sum_by-append nodes_in (e ∷ []) es)

nodes-children : (m : Node) → sum_by shapes.nodes_in (children (shape_of m)) ≡ nodes_of_all (children m)
nodes-children m = ap (sum_by shapes.nodes_in) (children-shape m) ∙ nodes-map (children m)

sum-placed : {X : Type 0} (side : Side) (f : X → ℕ) (es : List X) (e : X) → sum_by f (placed side es e) ≡ sum_by f es + f e
sum-placed Front f es e = omega (arith, sum_by-append f (e ∷ []) es)
sum-placed Back f es e = omega (arith, sum_by-append f es (e ∷ []))

-- ---- below a root
module _ (side : Side) (meet : Shape → Option Shape) (l : ℕ) (x : Node)
    (meets : (m : Node) (c : Shape) → meet (shape_of m) ≡ Some c → shapes.nodes_in c ≤ nodes_of_all (beside side (children m) (children x)) + 1) where
  abbrev FewBelow : ℕ → Type 0
  FewBelow d = (m : Node) (c : Shape) → IsTreeAt (l + d) m → grown side meet d (shape_of m) (shape_of x) ≡ Some c → shapes.nodes_in c ≤ nodes_of_all (kept_below side meet d m x) + (d + 1)

  few-zero : FewBelow 0
  unfolding grown
  few-zero m c tree is = omega (arith, meets m c is, ap nodes_of_all (kept-zero side meet m x))

  kept-step : (d : ℕ) (m : Node) → kept_below side meet (suc d) m x ≡ kept_from (grown side meet d (shape_of (last_of side m)) (shape_of x)) (others_in side (children m) ++ kept_below side meet d (last_of side m) x) (children m ++ x ∷ [])
  unfolding kept_below
  kept-step d m = refl

  grown-step : (d : ℕ) (m : Shape) → grown side meet (suc d) m (shape_of x) ≡ grown_from side m (wrapped d (shape_of x)) (grown side meet d (outermost side m) (shape_of x))
  unfolding grown
  grown-step d m = refl

  -- what the outermost edge gave, whose siblings are these
  from-few : (d : ℕ) (m last : Node) (siblings : List Node) (c : Shape) (o : Option Shape) → children m ≡ placed side siblings last
      → ((g : Shape) → o ≡ Some g → shapes.nodes_in g ≤ nodes_of_all (kept_below side meet d last x) + (d + 1))
      → grown_from side (shape_of m) (wrapped d (shape_of x)) o ≡ Some c
      → shapes.nodes_in c ≤ nodes_of_all (kept_from o (siblings ++ kept_below side meet d last x) (children m ++ x ∷ [])) + (suc d + 1)
  from-few d m last siblings c (Some g) edges few is =
      let ss = children (shape_of m) in
      let new = set ss (outer side (length ss)) g in
      let q : with_edges (shape_of m) new ≡ c = cc in
      let at : ss ≡ placed side (map shape_of siblings) (shape_of last) = children-shape m ∙ (ap (map shape_of) edges ∙ map-placed shape_of side siblings last) in
      let same : new ≡ placed side (map shape_of siblings) g = ap (λ (zs : List Shape). set zs (outer side (length zs)) g) at ∙ set-placed side (map shape_of siblings) (shape_of last) g in
      omega (
        arith,
        ap shapes.nodes_in q,
        nodes-over (level (shape_of m) - 1) new,
        ap (sum_by shapes.nodes_in) same,
        sum-placed side shapes.nodes_in (map shape_of siblings) g,
        nodes-map siblings,
        few g refl,
        sum_by-append nodes_in siblings (kept_below side meet d last x),
      )
  from-few d m last siblings c None edges few is =
      let top = wrapped d (shape_of x) in
      let es = placed side (children (shape_of m)) top in
      let p = if_some _ (with_edges (shape_of m) es) c is in
      omega (
        arith,
        ap shapes.nodes_in p.1,
        nodes-over (level (shape_of m) - 1) es,
        sum-placed side shapes.nodes_in (children (shape_of m)) top,
        nodes-children m,
        nodes-lifted d (shape_of x),
        nodes-shape x,
        sum_by-append nodes_in (children m) (x ∷ []),
      )

  step-few : (d : ℕ) → FewBelow d → (m : Node) (es : List Node) → es ≡ children m → 0 < length es → (c : Shape) → IsTreeAt (l + suc d) m
      → grown side meet (suc d) (shape_of m) (shape_of x) ≡ Some c → shapes.nodes_in c ≤ nodes_of_all (kept_below side meet (suc d) m x) + (suc d + 1)
  step-few d few m [] same some c tree is = absurd (omega arith)
  step-few d few m (e ∷ es) same some c tree is =
      let p = outermost-of side e es in
      let edges : children m ≡ placed side p.rest p.one = sym same ∙ p.is in
      let ss = children (shape_of m) in
      let at : ss ≡ placed side (map shape_of p.rest) (shape_of p.one) = children-shape m ∙ (ap (map shape_of) edges ∙ map-placed shape_of side p.rest p.one) in
      let out : outermost side (shape_of m) ≡ shape_of p.one = ap (λ (zs : List Shape). get_or zs (outer side (length zs)) (shape_of m)) at ∙ get-placed side (map shape_of p.rest) (shape_of p.one) (shape_of m) in
      let both = others-is side (children m) p.rest p.one m edges in
      let up : IsTreeAt (suc (l + d)) m = subst (λ (k : ℕ). IsTreeAt k m) (omega arith) tree in
      let low : IsTreeAt (l + d) p.one = All-one_placed side (IsTreeAt (l + d)) p.rest p.one (subst (All (IsTreeAt (l + d))) edges (edges-trees (l + d) m up)) in
      let o = grown side meet d (shape_of p.one) (shape_of x) in
      let kept : kept_below side meet (suc d) m x ≡ kept_from o (p.rest ++ kept_below side meet d p.one x) (children m ++ x ∷ []) =
      kept-step d m ∙ (λ i. kept_from (grown side meet d (shape_of (both.1 i)) (shape_of x)) (both.0 i ++ kept_below side meet d (both.1 i) x) (children m ++ x ∷ [])) in
      let grows : grown_from side (shape_of m) (wrapped d (shape_of x)) o ≡ Some c =
      ap (λ (z : Shape). grown_from side (shape_of m) (wrapped d (shape_of x)) (grown side meet d z (shape_of x))) (sym out) ∙ (sym (grown-step d (shape_of m)) ∙ is) in
      omega (arith, ap nodes_of_all kept, from-few d m p.one p.rest c o edges (λ g got. few p.one g low got) grows)

  below-few : (d : ℕ) → FewBelow d
  below-few zero = few-zero
  below-few (suc d) = λ m c tree is. step-few d (below-few d) m (children m) refl (edges-some (l + d) m (subst (λ (k : ℕ). IsTreeAt k m) (omega arith) tree)) c tree is

-- ---- the whole
if_none : (b : Bool) (o : Option Shape) (c : Shape) → cond b None o ≡ Some c → o ≡ Some c
if_none true o c e = absurd (cc)
if_none false o c e = e

meeting-few : (side : Side) (x m : Node) (c : Shape) → meeting side (shape_of x) (shape_of m) ≡ Some c → shapes.nodes_in c ≤ nodes_of_all (beside side (children m) (children x)) + 1
meeting-few side x m c is =
    let ms = children (shape_of m) in
    let xs = children (shape_of x) in
    let es = beside side ms xs in
    let p = if_some (leb (length ms + length xs) 6) (with_edges (shape_of m) es) c (if_none (eqb (level (shape_of x)) 0) (merged side (shape_of x) (shape_of m)) c is) in
    omega (arith, ap shapes.nodes_in p.1, nodes-over (level (shape_of m) - 1) es, sum-beside side shapes.nodes_in ms xs, nodes-children m, nodes-children x, sum-beside side nodes_in (children m) (children x))

whole-few : (side : Side) (t x : Node) (d : ℕ) (c : Shape) (o : Option Shape) → d ≡ level (shape_of t) - level (shape_of x)
    → ((g : Shape) → o ≡ Some g → shapes.nodes_in g ≤ nodes_of_all (kept_below side (meeting side (shape_of x)) d t x) + (d + 1))
    → c ≡ unwrap_or o (branch_over (level (shape_of t)) (placed side (shape_of t ∷ []) (wrapped d (shape_of x))))
    → shapes.nodes_in c ≤ nodes_of_all (kept_from o (kept_below side (meeting side (shape_of x)) d t x) (t ∷ x ∷ [])) + (d + 1)
whole-few side t x d c (Some g) at few is = omega (arith, ap shapes.nodes_in is, few g refl)
whole-few side t x d c None at few is =
    let top = wrapped d (shape_of x) in
    let es = placed side (shape_of t ∷ []) top in
    omega (arith, ap shapes.nodes_in is, nodes-over (level (shape_of t)) es, sum-placed side shapes.nodes_in (shape_of t ∷ []) top, nodes-lifted d (shape_of x), nodes-shape t, nodes-shape x)

pub added-few : (side : Side) (t x e : Node) → IsTree (shape_of t) → IsFilled t → level (shape_of x) ≤ level (shape_of t) → shape_of e ≡ added_by (meeting side (shape_of x)) side (shape_of t) (shape_of x)
    → nodes_in e ≤ nodes_of_all (kept_added (meeting side (shape_of x)) side t x) + 13
added-few side t x e tree full low is =
    let l = level (shape_of x) in
    let d = level (shape_of t) - l in
    let at : IsTreeAt (l + d) t = root-at (l + d) t (omega (arith, low)) tree full in
    let meet = meeting side (shape_of x) in
    omega (
      arith,
      nodes-shape e,
      tree.low,
      whole-few side t x d (shape_of e) (grown side meet d (shape_of t) (shape_of x)) refl (λ g got. below-few side meet l x (meeting-few side x) d t g at got) is,
    )

pub both-ok : {T E : Type 0} (r : Result T E) (A B C : T → Type 0) → ((x : T) → A x → B x → C x) → IfOk r A → IfOk r B → IfOk r C
both-ok (Ok x) A B C f a b = f x a b
both-ok (Err x) A B C f a b = tt
