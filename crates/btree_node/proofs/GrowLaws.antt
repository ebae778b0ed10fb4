-- A node added to a tree: what each level does with what the level below gave.
use Rattle.std.proofs.Common.{ℕ, zero, suc, ◌≡◌, ◌+◌, ◌-◌, ◌<◌, ◌≤◌, Bool, true, false, cond, ltb, leb, eqb, eq-eqb, List, [], ◌∷◌, ◌++◌, length, map, refl, sym, ap, subst, ◌∙◌, get_or, set, Option, Some, None, append-nil, add-one, arith}
use Rattle.std.specs.List.{All, flat_map}
use Rattle.std.specs.Prelude.{unwrap_or}
use Rattle.std.proofs.lemmas.Bool.{lt-ltb, le-ltb, le-leb, lt-leb, eqb-true}
use Rattle.std.proofs.lemmas.List.{length-map}
use Rattle.std.proofs.Math.Nat.{add-suc, add-zero}
use mathlib.Core.Logic.{dite}
use native.Mathlib.Decide.{ℕ_discrete, dec_lt}
use Rattle.node_forest.specs.declared.side.Side.{Side}
use Rattle.node_forest.specs.Forest.{children}
use Rattle.node_forest.specs.Label.{Node}
use Rattle.node_edges.specs.Body.{IsBranchOf}
use Rattle.tree_shapes.specs.Shape.{Shape, level, branch_over, IsNode, IsTree}
use Rattle.node_edges.specs.Text.{text, data_edges_at}
use Rattle.node_edges.specs.Trees.{shape_of, IsTreeAt, IsFilled}
use Rattle.node_edges.proofs.EdgeLaws.{children-shape, children-branch, shape-branch}
use Rattle.node_edges.proofs.TreeLaws.{branch-tree, edges-some, edges-trees, text-data_edges, data_edges-branch}
use Rattle.node_edges.proofs.TextLaws.{length-text}
use Rattle.tree_shapes.specs.Growth.{placed, beside, outer, outermost, with_edges, wrapped, with_edge, grown_from, grown, added_by}
use Rattle.tree_shapes.specs.Merge.{merged, meeting}
use Rattle.tree_shapes.proofs.GrowthLaws.{level-over, edges-over, length-placed, All-placed, if_some}
use Rattle.tree_shapes.proofs.RoomLaws.{get-placed, set-placed}
use Rattle.btree_node.specs.Opening.{last_of, others_in, IsOutermost}
use Rattle.btree_node.specs.Adding.{data_edges, meet_of, kept_from, kept_below, kept_added, IsTreeOver, IsGrownTo, IsAdded}
use Rattle.btree_node.proofs.ListLaws.{beside-one, beside-assoc, length-beside, All-beside, map-placed, map-beside, flat_map-placed, flat_map-beside, All-one}
use Rattle.btree_node.proofs.OpenLaws.{shape-outermost, others-is}

-- ---- one level of the rule, at a Branch whose outermost edge is known
module _ (side : Side) (meet : Shape → Option Shape) where
  outermost-over : (l : ℕ) (fs : List Shape) (c : Shape) → outermost side (branch_over l (placed side fs c)) ≡ c
  outermost-over l fs c = ap (λ (zs : List Shape). get_or zs (outer side (length zs)) (branch_over l (placed side fs c))) (edges-over l (placed side fs c)) ∙ get-placed side fs c _

  grown-over : (l d : ℕ) (fs : List Shape) (c x : Shape) → grown side meet (suc d) (branch_over l (placed side fs c)) x ≡ grown_from side (branch_over l (placed side fs c)) (wrapped d x) (grown side meet d c x)
  unfolding grown
  grown-over l d fs c x = ap (λ (z : Shape). grown_from side (branch_over l (placed side fs c)) (wrapped d x) (grown side meet d z x)) (outermost-over l fs c)

  with_edges-over : (l : ℕ) (es new : List Shape) → with_edges (branch_over l es) new ≡ branch_over l new
  with_edges-over l es new = let e : level (branch_over l es) - 1 ≡ l = omega (arith, level-over l es) in ap (λ (h : ℕ). branch_over h new) e

  with_edge-over : (l : ℕ) (es : List Shape) (x : Shape) → with_edge side (branch_over l es) x ≡ cond (ltb (length es) 6) (Some (branch_over l (placed side es x))) None
  with_edge-over l es x =
      ap (λ (zs : List Shape). cond (ltb (length zs) 6) (Some (with_edges (branch_over l es) (placed side zs x))) None) (edges-over l es)
      ∙ ap (λ (z : Shape). cond (ltb (length es) 6) (Some z) None) (with_edges-over l es (placed side es x))

  grows-below : (l d : ℕ) (fs : List Shape) (c x g : Shape) → grown side meet d c x ≡ Some g → grown side meet (suc d) (branch_over l (placed side fs c)) x ≡ Some (branch_over l (placed side fs g))
  grows-below l d fs c x g is =
      let m = branch_over l (placed side fs c) in
      grown-over l d fs c x ∙ ap (grown_from side m (wrapped d x)) is
      ∙ ap (λ (zs : List Shape). Some (with_edges m (set zs (outer side (length zs)) g))) (edges-over l (placed side fs c))
      ∙ ap (λ (zs : List Shape). Some (with_edges m zs)) (set-placed side fs c g)
      ∙ ap (λ (z : Shape). Some z) (with_edges-over l (placed side fs c) (placed side fs g))

  grows-beside : (l d : ℕ) (fs : List Shape) (c x : Shape) → grown side meet d c x ≡ None → suc (length fs) < 6 → grown side meet (suc d) (branch_over l (placed side fs c)) x ≡ Some (branch_over l (placed side (placed side fs c) (wrapped d x)))
  grows-beside l d fs c x is few =
      let es = placed side fs c in
      grown-over l d fs c x ∙ ap (grown_from side (branch_over l es) (wrapped d x)) is ∙ with_edge-over l es (wrapped d x)
      ∙ ap (λ (b : Bool). cond b (Some (branch_over l (placed side es (wrapped d x)))) None) (lt-ltb (length es) 6 (omega (arith, few, length-placed side fs c)))

  grows-full : (l d : ℕ) (fs : List Shape) (c x : Shape) → grown side meet d c x ≡ None → 6 ≤ suc (length fs) → grown side meet (suc d) (branch_over l (placed side fs c)) x ≡ None
  grows-full l d fs c x is many =
      let es = placed side fs c in
      grown-over l d fs c x ∙ ap (grown_from side (branch_over l es) (wrapped d x)) is ∙ with_edge-over l es (wrapped d x)
      ∙ ap (λ (b : Bool). cond b (Some (branch_over l (placed side es (wrapped d x)))) None) (le-ltb (length es) 6 (omega (arith, many, length-placed side fs c)))

  -- where it has no room, its outermost edge has none
  none-from : (m x : Shape) (o : Option Shape) → grown_from side m x o ≡ None → o ≡ None
  none-from m x None e = refl
  none-from m x (Some g) e = absurd (cc)

  grows-none : (l d : ℕ) (fs : List Shape) (c x : Shape) → grown side meet (suc d) (branch_over l (placed side fs c)) x ≡ None → grown side meet d c x ≡ None
  grows-none l d fs c x e = none-from (branch_over l (placed side fs c)) (wrapped d x) (grown side meet d c x) (sym (grown-over l d fs c x) ∙ e)

  kept-step : (d : ℕ) (m x : Node) → kept_below side meet (suc d) m x ≡ kept_from (grown side meet d (shape_of (last_of side m)) (shape_of x)) (others_in side (children m) ++ kept_below side meet d (last_of side m) x) (children m ++ x ∷ [])
  unfolding kept_below
  kept-step d m x = refl

pub kept-zero : (side : Side) (meet : Shape → Option Shape) (m x : Node) → kept_below side meet 0 m x ≡ beside side (children m) (children x)
unfolding kept_below
kept-zero side meet m x = refl

data-above : (l : ℕ) (e : Node) (es : List Node) → children e ≡ es → data_edges_at (suc l) e ≡ flat_map (data_edges_at l) es
unfolding data_edges_at
data-above l e es is = ap (flat_map (data_edges_at l)) is

-- ---- the same of nodes
module _ (side : Side) (meet : Shape → Option Shape) (l s : ℕ) (m x last : Node) (siblings : List Node) (tree : IsTreeAt (suc (l + s)) m) (o : IsOutermost side (l + s) m siblings last) where
  shape-m : shape_of m ≡ branch_over (l + s) (placed side (map shape_of siblings) (shape_of last))
  shape-m = shape-outermost side (l + s) m siblings last tree o

  count-m : length (children m) ≡ suc (length siblings)
  count-m = ap (λ (es : List Node). length es) o.edges ∙ length-placed side siblings last

  data-m : data_edges_at (suc (l + s)) m ≡ beside side (flat_map (data_edges_at (l + s)) siblings) (data_edges_at (l + s) last)
  data-m = data-above (l + s) m (placed side siblings last) o.edges ∙ flat_map-placed (data_edges_at (l + s)) side siblings last

  grown-m : grown side meet (suc s) (shape_of m) (shape_of x) ≡ grown side meet (suc s) (branch_over (l + s) (placed side (map shape_of siblings) (shape_of last))) (shape_of x)
  grown-m = ap (λ (z : Shape). grown side meet (suc s) z (shape_of x)) shape-m

  pub grown-exchanged : (c e : Node) → IsGrownTo meet side l s last x c → IsBranchOf (l + s) (beside side siblings (c ∷ [])) e → IsGrownTo meet side l (suc s) m x e
  grown-exchanged c e g branch =
      let h : ℕ = l + s in
      let es = placed side siblings c in
      let D = data_edges_at h in
      let is : IsBranchOf h es e = subst (λ (zs : List Node). IsBranchOf h zs e) (beside-one side siblings c) branch in
      let count = length-placed side siblings c in
      let shapes : shape_of e ≡ branch_over h (placed side (map shape_of siblings) (shape_of c)) = shape-branch e h es is ∙ ap (branch_over h) (map-placed shape_of side siblings c) in
      record {
        shape = grown-m ∙ (grows-below side meet h s (map shape_of siblings) (shape_of last) (shape_of x) (shape_of c) g.shape ∙ ap (λ (z : Shape). Some z) (sym shapes));
        tree = subst (λ (k : ℕ). IsTreeAt k e) (sym (add-suc l s)) (branch-tree e h es is (omega (arith, count)) (omega (arith, count, o.few)) (All-placed side (IsTreeAt h) siblings c o.trees g.tree));
        data_edges = ap (λ (k : ℕ). data_edges_at k e) (add-suc l s)
            ∙ (data_edges-branch e h es is h ∙ (flat_map-placed D side siblings c
            ∙ (ap (beside side (flat_map D siblings)) g.data_edges
            ∙ (sym (beside-assoc side (flat_map D siblings) (D last) (data_edges_at l x))
            ∙ (ap (λ (ds : List Node). beside side ds (data_edges_at l x)) (sym data-m)
            ∙ ap (λ (k : ℕ). beside side (data_edges_at k m) (data_edges_at l x)) (sym (add-suc l s)))))));
        wide = omega (arith, count-m, count, ap (λ (zs : List Node). length zs) (children-branch e h es is));
      }

  pub grown-more : (top e : Node) (edges : List Node) → edges ≡ children m → grown side meet s (shape_of last) (shape_of x) ≡ None → length siblings < 5 → IsTreeOver (l + s) (wrapped s (shape_of x)) (data_edges_at l x) top → IsBranchOf (l + s) (beside side edges (top ∷ [])) e → IsGrownTo meet side l (suc s) m x e
  grown-more top e edges same none few t branch =
      let h : ℕ = l + s in
      let before : List Node = placed side siblings last in
      let es = placed side before top in
      let D = data_edges_at h in
      let is : IsBranchOf h es e = subst (λ (zs : List Node). IsBranchOf h zs e) (beside-one side edges top ∙ ap (λ (zs : List Node). placed side zs top) (same ∙ o.edges)) branch in
      let count = length-placed side siblings last in
      let count_more = length-placed side before top in
      let shapes : shape_of e ≡ branch_over h (placed side (placed side (map shape_of siblings) (shape_of last)) (wrapped s (shape_of x))) =
      shape-branch e h es is ∙ (ap (branch_over h) (map-placed shape_of side before top) ∙ (λ i. branch_over h (placed side (map-placed shape_of side siblings last i) (t.shape i)))) in
      record {
        shape = grown-m ∙ (grows-beside side meet h s (map shape_of siblings) (shape_of last) (shape_of x) none (omega (arith, few, length-map siblings shape_of)) ∙ ap (λ (z : Shape). Some z) (sym shapes));
        tree = subst (λ (k : ℕ). IsTreeAt k e) (sym (add-suc l s)) (branch-tree e h es is (omega (arith, count_more)) (omega (arith, count, count_more, few)) (All-placed side (IsTreeAt h) before top (All-placed side (IsTreeAt h) siblings last o.trees o.last_tree) t.tree));
        data_edges = ap (λ (k : ℕ). data_edges_at k e) (add-suc l s)
            ∙ (data_edges-branch e h es is h ∙ (flat_map-placed D side before top
            ∙ (ap (λ (ds : List Node). beside side ds (D top)) (sym (data-above h m before o.edges))
            ∙ (ap (beside side (data_edges_at (suc h) m)) t.data_edges
            ∙ ap (λ (k : ℕ). beside side (data_edges_at k m) (data_edges_at l x)) (sym (add-suc l s))))));
        wide = omega (arith, count-m, count, count_more, ap (λ (zs : List Node). length zs) (children-branch e h es is));
      }

  pub grown-full : grown side meet s (shape_of last) (shape_of x) ≡ None → 5 ≤ length siblings → grown side meet (suc s) (shape_of m) (shape_of x) ≡ None
  grown-full none many = grown-m ∙ grows-full side meet (l + s) s (map shape_of siblings) (shape_of last) (shape_of x) none (omega (arith, many, length-map siblings shape_of))

  pub none-below : grown side meet (suc s) (shape_of m) (shape_of x) ≡ None → grown side meet s (shape_of last) (shape_of x) ≡ None
  none-below e = grows-none side meet (l + s) s (map shape_of siblings) (shape_of last) (shape_of x) (sym grown-m ∙ e)

  -- then it isn't so that it has room
  pub none-many : grown side meet (suc s) (shape_of m) (shape_of x) ≡ None → 5 ≤ length siblings
  none-many e = dite (dec_lt (length siblings) 5)
      (λ few. absurd (no-both (sym e ∙ (grown-m ∙ grows-beside side meet (l + s) s (map shape_of siblings) (shape_of last) (shape_of x) (none-below e) (omega (arith, few, length-map siblings shape_of))))))
      (λ many. omega (arith, many))
    where
      no-both : {z : Shape} → None ≡ Some z → ⊥
      no-both p = absurd (cc)

  pub kept-grown : (g : Shape) → grown side meet s (shape_of last) (shape_of x) ≡ Some g → kept_below side meet (suc s) m x ≡ siblings ++ kept_below side meet s last x
  kept-grown g is =
      let both = others-is side (children m) siblings last m o.edges in
      kept-step side meet s m x
      ∙ ((λ i. kept_from (grown side meet s (shape_of (both.1 i)) (shape_of x)) (both.0 i ++ kept_below side meet s (both.1 i) x) (children m ++ x ∷ []))
      ∙ ap (λ (q : Option Shape). kept_from q (siblings ++ kept_below side meet s last x) (children m ++ x ∷ [])) is)

  pub kept-here : grown side meet s (shape_of last) (shape_of x) ≡ None → kept_below side meet (suc s) m x ≡ children m ++ x ∷ []
  kept-here is =
      let both = others-is side (children m) siblings last m o.edges in
      kept-step side meet s m x
      ∙ ((λ i. kept_from (grown side meet s (shape_of (both.1 i)) (shape_of x)) (both.0 i ++ kept_below side meet s (both.1 i) x) (children m ++ x ∷ []))
      ∙ ap (λ (q : Option Shape). kept_from q (siblings ++ kept_below side meet s last x) (children m ++ x ∷ [])) is)

-- ---- where the node meets one of its own level
meeting-apart : (side : Side) (m x : Shape) → level x ≡ 0 → meeting side x m ≡ None
meeting-apart side m x at = ap (λ (b : Bool). cond b None (merged side x m)) (eq-eqb (level x) 0 at)

meeting-merged : (side : Side) (m x : Shape) → 0 < level x → meeting side x m ≡ merged side x m
meeting-merged side m x some = go (eqb (level x) 0) refl
  where
    go : (b : Bool) → eqb (level x) 0 ≡ b → cond b None (merged side x m) ≡ merged side x m
    go true e = absurd (omega (arith, some, eqb-true (level x) 0 e))
    go false e = refl

pub grown-none : (side : Side) (joining : Bool) (m x : Shape) → ((joining ≡ true) → level x ≡ 0) → grown side (meet_of joining side x) 0 m x ≡ None
unfolding grown
grown-none side true m x at = meeting-apart side m x (at refl)
grown-none side false m x at = refl

merged-cond : (side : Side) (h : ℕ) (m x : Node) (es fs : List Node) → children m ≡ es → children x ≡ fs → level (shape_of m) ≡ suc h → level (shape_of x) ≡ suc h
    → grown side (meeting side (shape_of x)) 0 (shape_of m) (shape_of x) ≡ cond (leb (length es + length fs) 6) (Some (branch_over h (beside side (map shape_of es) (map shape_of fs)))) None
unfolding grown
merged-cond side h m x es fs em ex at up =
    let km : children (shape_of m) ≡ map shape_of es = children-shape m ∙ ap (map shape_of) em in
    let kx : children (shape_of x) ≡ map shape_of fs = children-shape x ∙ ap (map shape_of) ex in
    let lev : level (shape_of m) - 1 ≡ h = omega (arith, at) in
    meeting-merged side (shape_of m) (shape_of x) (omega (arith, up))
    ∙ (λ i. cond (leb (length (km i) + length (kx i)) 6) (Some (branch_over (lev i) (beside side (km i) (kx i)))) None)
    ∙ (λ i. cond (leb (length-map es shape_of i + length-map fs shape_of i) 6) (Some (branch_over h (beside side (map shape_of es) (map shape_of fs)))) None)

module _ (side : Side) (h : ℕ) (m x : Node) (es fs : List Node) (em : es ≡ children m) (ex : fs ≡ children x) (tree : IsTreeAt (suc h) m) (node : IsTreeAt (suc h) x) where
  edges-m : All (IsTreeAt h) es
  edges-m = subst (All (IsTreeAt h)) (sym em) (edges-trees h m tree)

  edges-x : All (IsTreeAt h) fs
  edges-x = subst (All (IsTreeAt h)) (sym ex) (edges-trees h x node)

  some-m : 0 < length es
  some-m = omega (arith, edges-some h m tree, ap (λ (zs : List Node). length zs) em)

  pub all-joined : All (IsTreeAt h) (beside side es fs)
  all-joined = All-beside side (IsTreeAt h) es fs edges-m edges-x

  pub some-joined : 0 < length (beside side es fs)
  some-joined = omega (arith, some-m, length-beside side es fs)

  pub grown-merged : (e : Node) → length es + length fs ≤ 6 → IsBranchOf h (beside side es fs) e → IsGrownTo (meeting side (shape_of x)) side (suc h) 0 m x e
  grown-merged e fits is =
      let all = beside side es fs in
      let D = data_edges_at h in
      let long = length-beside side es fs in
      let flat : suc h + 0 ≡ suc h = omega arith in
      let shapes : shape_of e ≡ branch_over h (beside side (map shape_of es) (map shape_of fs)) = shape-branch e h all is ∙ ap (branch_over h) (map-beside shape_of side es fs) in
      record {
        shape = merged-cond side h m x es fs (sym em) (sym ex) tree.at node.at
            ∙ (ap (λ (b : Bool). cond b (Some (branch_over h (beside side (map shape_of es) (map shape_of fs)))) None) (le-leb (length es + length fs) 6 fits) ∙ ap (λ (z : Shape). Some z) (sym shapes));
        tree = subst (λ (k : ℕ). IsTreeAt k e) (sym flat) (branch-tree e h all is (omega (arith, some-m, long)) (omega (arith, long, fits)) all-joined);
        data_edges = ap (λ (k : ℕ). data_edges_at k e) flat
            ∙ (data_edges-branch e h all is h ∙ (flat_map-beside D side es fs
            ∙ ((λ i. beside side (sym (data-above h m es (sym em)) i) (sym (data-above h x fs (sym ex)) i))
            ∙ ap (λ (k : ℕ). beside side (data_edges_at k m) (data_edges_at (suc h) x)) (sym flat))));
        wide = omega (arith, ap (λ (zs : List Node). length zs) (children-branch e h all is), long, ap (λ (zs : List Node). length zs) em);
      }

  pub grown-apart : 6 < length es + length fs → grown side (meeting side (shape_of x)) 0 (shape_of m) (shape_of x) ≡ None
  grown-apart over =
      merged-cond side h m x es fs (sym em) (sym ex) tree.at node.at
      ∙ ap (λ (b : Bool). cond b (Some (branch_over h (beside side (map shape_of es) (map shape_of fs)))) None) (lt-leb (length es + length fs) 6 over)

  pub apart-many : grown side (meeting side (shape_of x)) 0 (shape_of m) (shape_of x) ≡ None → 6 < length es + length fs
  apart-many e = dite (dec_lt 6 (length es + length fs))
      (λ many. many)
      (λ few. absurd (no-both (sym e ∙ (merged-cond side h m x es fs (sym em) (sym ex) tree.at node.at
      ∙ ap (λ (b : Bool). cond b (Some (branch_over h (beside side (map shape_of es) (map shape_of fs)))) None) (le-leb (length es + length fs) 6 (omega (arith, few)))))))
    where
      no-both : {z : Shape} → None ≡ Some z → ⊥
      no-both p = absurd (cc)

-- ---- under Branches of one edge
pub wrapped-none : (l : ℕ) (x top : Node) → top ≡ x → IsTreeAt l x → IsTreeOver (l + 0) (wrapped 0 (shape_of x)) (data_edges_at l x) top
unfolding wrapped
wrapped-none l x top e t = rw (add-zero, e) (record { tree = t; shape = refl; data_edges = refl })

pub wrapped-more : (l i : ℕ) (x top e : Node) → IsTreeAt l x → IsTreeOver (l + i) (wrapped i (shape_of x)) (data_edges_at l x) top → IsBranchOf (l + i) (top ∷ []) e → IsTreeOver (l + (i + 1)) (wrapped (i + 1) (shape_of x)) (data_edges_at l x) e
unfolding wrapped
wrapped-more l i x top e t made is =
    rw (add-one, add-suc) (record {
      tree = branch-tree e (l + i) (top ∷ []) is (omega arith) (omega arith) (All-one (IsTreeAt (l + i)) top made.tree);
      shape = shape-branch e (l + i) (top ∷ []) is ∙ ap (λ s. branch_over (l + i) (s ∷ [])) made.shape ∙ ap (λ n. branch_over (n + i) (wrapped i (shape_of x) ∷ [])) (sym t.at);
      data_edges = data_edges-branch e (l + i) (top ∷ []) is (l + i) ∙ (append-nil (data_edges_at (l + i) top) ∙ made.data_edges);
    })

-- ---- a new root
-- e is a new root over t and x, which belongs so many levels below t
pub record IsRaised (side : Side) (l steps : ℕ) (t x e : Node) : Type 0 where
  pub shape : shape_of e ≡ branch_over (l + steps) (placed side (shape_of t ∷ []) (wrapped steps (shape_of x)))
  pub tree : IsTreeAt (l + steps + 1) e
  pub data_edges : data_edges_at (l + steps + 1) e ≡ beside side (data_edges_at (l + steps) t) (data_edges_at l x)
  pub wide : 2 ≤ length (children e)

pub raised-made : (side : Side) (l s : ℕ) (t x top e : Node) → IsTreeAt (l + s) t → IsTreeOver (l + s) (wrapped s (shape_of x)) (data_edges_at l x) top → IsBranchOf (l + s) (beside side (t ∷ []) (top ∷ [])) e → IsRaised side l s t x e
raised-made side l s t x top e tree over branch =
    let h : ℕ = l + s in
    let es = placed side (t ∷ []) top in
    let D = data_edges_at h in
    let is : IsBranchOf h es e = subst (λ (zs : List Node). IsBranchOf h zs e) (beside-one side (t ∷ []) top) branch in
    let two = length-placed side (t ∷ []) top in
    record {
      shape = shape-branch e h es is ∙ (ap (branch_over h) (map-placed shape_of side (t ∷ []) top) ∙ ap (λ (z : Shape). branch_over h (placed side (shape_of t ∷ []) z)) over.shape);
      tree = subst (λ (k : ℕ). IsTreeAt k e) (sym (add-one h)) (branch-tree e h es is (omega (arith, two)) (omega (arith, two)) (All-placed side (IsTreeAt h) (t ∷ []) top (All-one (IsTreeAt h) t tree) over.tree));
      data_edges = ap (λ (k : ℕ). data_edges_at k e) (add-one h)
          ∙ (data_edges-branch e h es is h ∙ (flat_map-placed D side (t ∷ []) top ∙ (ap (λ (ds : List Node). beside side ds (D top)) (append-nil (D t)) ∙ ap (beside side (D t)) over.data_edges)));
      wide = omega (arith, two, ap (λ (zs : List Node). length zs) (children-branch e h es is));
    }

-- ---- lengths
pub length-joined : (side : Side) (a b n : ℕ) (t x e : Node) → IsTreeAt a t → IsTreeAt b x → IsTreeAt n e → data_edges_at n e ≡ beside side (data_edges_at a t) (data_edges_at b x) → text e ≡ beside side (text t) (text x)
length-joined side a b n t x e tt_ xx ee is =
    text-data_edges n e ee ∙ (ap (flat_map text) is ∙ (flat_map-beside text side (data_edges_at a t) (data_edges_at b x)
    ∙ (λ i. beside side (sym (text-data_edges a t tt_) i) (sym (text-data_edges b x xx) i))))

pub length-grown : (meet : Shape → Option Shape) (side : Side) (l s : ℕ) (t x e : Node) → IsTreeAt (l + s) t → IsTreeAt l x → IsGrownTo meet side l s t x e → e.0.length ≡ t.0.length + x.0.length
length-grown meet side l s t x e tree node g =
    let same = length-joined side (l + s) l (l + s) t x e tree node g.tree g.data_edges in
    omega (arith, length-text (l + s) e g.tree, length-text (l + s) t tree, length-text l x node, ap (λ (bs : List ℕ). length bs) same, length-beside side (text t) (text x))

pub length-over : (l n : ℕ) (s : Shape) (x top : Node) → IsTreeAt l x → IsTreeOver n s (data_edges_at l x) top → top.0.length ≡ x.0.length
length-over l n s x top node t =
    omega (arith, length-text n top t.tree, length-text l x node, ap (λ (bs : List ℕ). length bs) (text-data_edges n top t.tree ∙ (ap (flat_map text) t.data_edges ∙ sym (text-data_edges l x node))))

-- ---- the whole
count-shapes : (e : Node) → length (children (shape_of e)) ≡ length (children e)
count-shapes e = ap (λ (ss : List Shape). length ss) (children-shape e) ∙ length-map (children e) shape_of

module _ (side : Side) (meet : Shape → Option Shape) (t x e : Node) (root : IsTree (shape_of t)) (full : IsFilled t) (node : IsTreeAt (level (shape_of x)) x) (l s : ℕ) (at : l ≡ level (shape_of x)) (steps : s ≡ level (shape_of t) - level (shape_of x)) (sum : l + s ≡ level (shape_of t)) where
  tree-t : IsTreeAt (level (shape_of t)) t
  tree-t = record { at = refl; node = root.node; filled = full }

  whole : Shape
  whole = branch_over (level (shape_of t)) (placed side (shape_of t ∷ []) (wrapped (level (shape_of t) - level (shape_of x)) (shape_of x)))

  data-is : (n : ℕ) → IsTreeAt n e → data_edges_at n e ≡ beside side (data_edges_at (l + s) t) (data_edges_at l x) → data_edges e ≡ beside side (data_edges t) (data_edges x)
  data-is n tree is = ap (λ (k : ℕ). data_edges_at k e) tree.at ∙ (is ∙ (λ i. beside side (data_edges_at (sum i) t) (data_edges_at (at i) x)))

  text-is : (n : ℕ) → IsTreeAt n e → data_edges_at n e ≡ beside side (data_edges_at (l + s) t) (data_edges_at l x) → text e ≡ beside side (text t) (text x)
  text-is n tree is = length-joined side (l + s) l n t x e (subst (λ (k : ℕ). IsTreeAt k t) (sym sum) tree-t) (subst (λ (k : ℕ). IsTreeAt k x) (sym at) node) tree is

  pub added-grown : IsGrownTo meet side l s t x e → IsAdded meet side t x e
  unfolding branch_over whole
  added-grown g = record {
    shape = sym (ap (λ (k : ℕ). unwrap_or (grown side meet k (shape_of t) (shape_of x)) whole) (sym steps) ∙ ap (λ (o : Option Shape). unwrap_or o whole) g.shape);
    tree = record {
      node = subst (λ (k : ℕ). IsNode k (shape_of e)) (sym g.tree.at) g.tree.node;
      low = omega (arith, g.tree.at, sum, root.low);
      wide = λ up. omega (arith, root.wide (omega (arith, up, g.tree.at, sum)), g.wide, count-shapes t, count-shapes e);
    };
    filled = g.tree.filled;
    data_edges = data-is (l + s) g.tree g.data_edges;
    text = text-is (l + s) g.tree g.data_edges;
  }

  pub added-raised : grown side meet s (shape_of t) (shape_of x) ≡ None → l + s ≤ 11 → IsRaised side l s t x e → IsAdded meet side t x e
  unfolding branch_over whole
  added-raised none low r = record {
    shape = r.shape ∙ ((λ i. branch_over (sum i) (placed side (shape_of t ∷ []) (wrapped (steps i) (shape_of x))))
        ∙ sym (ap (λ (k : ℕ). unwrap_or (grown side meet k (shape_of t) (shape_of x)) whole) (sym steps) ∙ ap (λ (o : Option Shape). unwrap_or o whole) none));
    tree = record {
      node = subst (λ (k : ℕ). IsNode k (shape_of e)) (sym r.tree.at) r.tree.node;
      low = omega (arith, r.tree.at, low);
      wide = λ up. omega (arith, r.wide, count-shapes e);
    };
    filled = r.tree.filled;
    data_edges = data-is (l + s + 1) r.tree r.data_edges;
    text = text-is (l + s + 1) r.tree r.data_edges;
  }

  pub kept-all : (g : Shape) → grown side meet s (shape_of t) (shape_of x) ≡ Some g → kept_added meet side t x ≡ kept_below side meet s t x
  kept-all g is = ap (λ (k : ℕ). kept_from (grown side meet k (shape_of t) (shape_of x)) (kept_below side meet k t x) (t ∷ x ∷ [])) (sym steps) ∙ ap (λ (o : Option Shape). kept_from o (kept_below side meet s t x) (t ∷ x ∷ [])) is

  pub kept-both : grown side meet s (shape_of t) (shape_of x) ≡ None → kept_added meet side t x ≡ t ∷ x ∷ []
  kept-both is = ap (λ (k : ℕ). kept_from (grown side meet k (shape_of t) (shape_of x)) (kept_below side meet k t x) (t ∷ x ∷ [])) (sym steps) ∙ ap (λ (o : Option Shape). kept_from o (kept_below side meet s t x) (t ∷ x ∷ [])) is

-- ---- when a new root is needed
with-level : (m c : Shape) (es : List Shape) → 0 < level m → with_edges m es ≡ c → level c ≡ level m
with-level m c es some is = omega (arith, ap level (sym is), level-over (level m - 1) es, some)

from-level : (side : Side) (m x c : Shape) (o : Option Shape) → 0 < level m → grown_from side m x o ≡ Some c → level c ≡ level m
from-level side m x c (Some g) some e = let q : with_edges m (set (children m) (outer side (length (children m))) g) ≡ c = cc in with-level m c _ some q
from-level side m x c None some e = with-level m c _ some (if_some (ltb (length (children m)) 6) (with_edges m (placed side (children m) x)) c e).1

meeting-level : (side : Side) (m x c : Shape) → level x ≤ level m → meeting side x m ≡ Some c → level c ≡ level m
meeting-level side m x c low e = go (eqb (level x) 0) refl e
  where
    go : (b : Bool) → eqb (level x) 0 ≡ b → cond b None (merged side x m) ≡ Some c → level c ≡ level m
    go true is p = absurd (cc)
    go false is p = dite (ℕ_discrete (level x) 0)
        (λ z. absurd (both (eqb (level x) 0) (eq-eqb (level x) 0 z) is))
        (λ nz. with-level m c _ (omega (arith, nz, low)) (if_some (leb (length (children m) + length (children x)) 6) (with_edges m (beside side (children m) (children x))) c p).1)
      where
        both : (b : Bool) → b ≡ true → b ≡ false → ⊥
        both b p q = absurd (cc)

level-grown : (side : Side) (joining : Bool) (s : ℕ) (t x c : Shape) → level x ≤ level t → (0 < s → 0 < level t) → grown side (meet_of joining side x) s t x ≡ Some c → level c ≡ level t
unfolding grown
level-grown side joining (suc s) t x c low up e = from-level side t (wrapped s x) c (grown side (meet_of joining side x) s (outermost side t) x) (up (omega arith)) e
level-grown side true zero t x c low up e = meeting-level side t x c low e
level-grown side false zero t x c low up e = absurd (cc)

pub high-none : (side : Side) (joining : Bool) (t x : Shape) (s : ℕ) → s ≡ level t - level x → level x ≤ level t → level t ≤ 12 → 12 < level (added_by (meet_of joining side x) side t x) → (grown side (meet_of joining side x) s t x ≡ None) × (level t ≡ 12)
high-none side joining t x s steps lower low high = go (grown side (meet_of joining side x) s t x) refl (subst (λ (k : ℕ). 12 < level (unwrap_or (grown side (meet_of joining side x) k t x) whole)) (sym steps) high)
  where
    whole : Shape
    whole = branch_over (level t) (placed side (t ∷ []) (wrapped (level t - level x) x))

    go : (o : Option Shape) → grown side (meet_of joining side x) s t x ≡ o → 12 < level (unwrap_or (grown side (meet_of joining side x) s t x) whole) → (grown side (meet_of joining side x) s t x ≡ None) × (level t ≡ 12)
    go (Some c) e h = absurd (omega (arith, low, level-grown side joining s t x c lower (λ some. omega (arith, some, steps)) e, ap (λ (o : Option Shape). level (unwrap_or o whole)) e, h))
    go None e h = (e, omega (arith, low, ap (λ (o : Option Shape). level (unwrap_or o whole)) e, level-over (level t) (placed side (t ∷ []) (wrapped (level t - level x) x)), h))

pub none-high : (side : Side) (meet : Shape → Option Shape) (t x : Shape) (s : ℕ) → s ≡ level t - level x → level t ≡ 12 → grown side meet s t x ≡ None → 12 < level (added_by meet side t x)
none-high side meet t x s steps at none =
    let whole = branch_over (level t) (placed side (t ∷ []) (wrapped (level t - level x) x)) in
    omega (arith, at, ap (λ (k : ℕ). level (unwrap_or (grown side meet k t x) whole)) (sym steps), ap (λ (o : Option Shape). level (unwrap_or o whole)) none, level-over (level t) (placed side (t ∷ []) (wrapped (level t - level x) x)))

pub root-at : (b : ℕ) (e : Node) → b ≡ level (shape_of e) → IsTree (shape_of e) → IsFilled e → IsTreeAt b e
root-at b e at root full = record { at = sym at; node = subst (λ (l : ℕ). IsNode l (shape_of e)) (sym at) root.node; filled = full }
