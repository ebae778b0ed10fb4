-- A Branch opened at its outermost edge.
use Rattle.std.proofs.Common.{ℕ, zero, suc, ◌≡◌, ◌+◌, ◌-◌, ◌*◌, ◌<◌, ◌≤◌, List, [], ◌∷◌, ◌++◌, length, sum_by, map, take, drop, take-append-drop, length-drop, refl, sym, ap, subst, ◌∙◌, get_or, arith}
use Rattle.std.specs.List.{All, Contains}
use Rattle.std.proofs.lemmas.List.{length-append, length-map, take_all, drop_all, get_or_append_left}
use Rattle.std.proofs.lemmas.List.Sums.{sum_by-append}
use Rattle.std.proofs.lemmas.List.Elements.{Contains-get_or}
use Rattle.std.proofs.Math.Seq.{drop-cons, get_or-append_seam}
use Rattle.node_forest.specs.declared.side.Side.{Side}
use Rattle.node_forest.specs.declared.side.Side.TheVariants.{Front, Back}
use Rattle.node_forest.specs.Forest.{children}
use Rattle.node_forest.specs.Label.{Node}
use Rattle.tree_shapes.specs.Shape.{Shape, length_of, branch_over}
use Rattle.node_edges.specs.Trees.{shape_of, IsTreeAt}
use Rattle.node_edges.proofs.EdgeLaws.{children-shape, length-shape, sum-lengths}
use Rattle.node_edges.proofs.TreeLaws.{edges-few, edges-trees}
use Rattle.pool_rule.specs.Trades.{Stands}
use Rattle.pool_rule.proofs.Trades.{Stands-child}
use Rattle.tree_shapes.specs.Growth.{placed, outer}
use Rattle.tree_shapes.specs.Room.{most_under, room_at}
use Rattle.tree_shapes.proofs.GrowthLaws.{length-placed}
use Rattle.tree_shapes.proofs.RoomLaws.{All-rest_placed, All-one_placed, branch-is, room-over}
use Rattle.btree_node.specs.Opening.{others_in, IsOutermost}
use Rattle.btree_node.proofs.ListLaws.{map-placed}

-- ---- the outermost edge
split-last : (es : List Node) (d : Node) → 0 < length es → es ≡ take (length es - 1) es ++ get_or es (length es - 1) d ∷ []
split-last es d some =
    let n : ℕ = length es - 1 in
    let up : length es ≤ suc n = omega (arith, some) in
    sym (take-append-drop n es) ∙ ap (λ (ys : List Node). take n es ++ ys) (drop-cons es n d (omega (arith, some)) ∙ ap (λ (zs : List Node). get_or es n d ∷ zs) (drop_all (suc n) es up))

outermost-of : (side : Side) (l : ℕ) (e : Node) (es siblings : List Node) (last : Node) → es ≡ children e → es ≡ placed side siblings last → IsTreeAt (suc l) e → IsOutermost side l e siblings last
outermost-of side l e es siblings last is split tree =
    let here : children e ≡ placed side siblings last = sym is ∙ split in
    let all : All (IsTreeAt l) (placed side siblings last) = subst (All (IsTreeAt l)) here (edges-trees l e tree) in
    record {
      edges = here;
      few = omega (arith, edges-few l e tree, ap (λ (zs : List Node). length zs) here, length-placed side siblings last);
      trees = All-rest_placed side (IsTreeAt l) siblings last all;
      last_tree = All-one_placed side (IsTreeAt l) siblings last all;
    }

pub outermost-back : (l : ℕ) (e : Node) (es : List Node) (last : Node) → es ≡ children e → 0 < length es → IsTreeAt (suc l) e → last ≡ get_or es (length es - 1) last → IsOutermost Back l e (take (length es - 1) es) last
outermost-back l e es last is some tree at =
    outermost-of Back l e es (take (length es - 1) es) last is (split-last es last some ∙ ap (λ (x : Node). take (length es - 1) es ++ x ∷ []) (sym at)) tree

pub outermost-front : (l : ℕ) (e : Node) (es : List Node) (first : Node) → es ≡ children e → 0 < length es → IsTreeAt (suc l) e → first ≡ get_or es 0 first → IsOutermost Front l e (take (length es - 1) (drop 1 es)) first
outermost-front l e es first is some tree at =
    let all : take (length es - 1) (drop 1 es) ≡ drop 1 es = take_all (length es - 1) (drop 1 es) (omega (arith, length-drop 1 es)) in
    let split : es ≡ first ∷ drop 1 es = drop-cons es 0 first (omega (arith, some)) ∙ ap (λ (x : Node). x ∷ drop 1 es) (sym at) in
    outermost-of Front l e es (take (length es - 1) (drop 1 es)) first is (split ∙ ap (λ (zs : List Node). first ∷ zs) (sym all)) tree

module _ (side : Side) where
  pub shape-outermost : (l : ℕ) (e : Node) (siblings : List Node) (last : Node) → IsTreeAt (suc l) e → IsOutermost side l e siblings last → shape_of e ≡ branch_over l (placed side (map shape_of siblings) (shape_of last))
  shape-outermost l e siblings last tree o =
      branch-is l (shape_of e) tree.node ∙ ap (branch_over l) (children-shape e ∙ (ap (map shape_of) o.edges ∙ map-placed shape_of side siblings last))

  pub room-outermost : (l : ℕ) (e : Node) (siblings : List Node) (last : Node) → IsTreeAt (suc l) e → IsOutermost side l e siblings last → room_at side (suc l) (shape_of e) ≡ room_at side l (shape_of last) + (5 - length siblings) * most_under l
  room-outermost l e siblings last tree o =
      let long = length-map siblings shape_of in
      let k : 6 - suc (length (map shape_of siblings)) ≡ 5 - length siblings = omega (arith, long) in
      ap (room_at side (suc l)) (shape-outermost l e siblings last tree o) ∙ (room-over side l (map shape_of siblings) (shape_of last) ∙ ap (λ (j : ℕ). room_at side l (shape_of last) + j * most_under l) k)

-- ---- where edges stand
contains-sibling : (siblings : List Node) (last : Node) (k : ℕ) (d : Node) → k < length siblings → Contains (siblings ++ last ∷ []) (get_or siblings k d)
contains-sibling siblings last k d lt =
    (k, omega (arith, lt, length-append siblings (last ∷ [])), get_or_append_left siblings (last ∷ []) (get_or siblings k d) k lt ∙ get_same siblings k d lt)
  where
    get_same : (xs : List Node) (i : ℕ) (x : Node) → i < length xs → get_or xs i (get_or xs i x) ≡ get_or xs i x
    get_same [] i x h = absurd (omega (arith, h))
    get_same (y ∷ ys) zero x h = refl
    get_same (y ∷ ys) (suc i) x h = get_same_more ys i x (get_or ys i x) (omega (arith, h))
      where
        get_same_more : (zs : List Node) (j : ℕ) (p q : Node) → j < length zs → get_or zs j q ≡ get_or zs j p
        get_same_more [] j p q h = absurd (omega (arith, h))
        get_same_more (z ∷ zs) zero p q h = refl
        get_same_more (z ∷ zs) (suc j) p q h = get_same_more zs j p q (omega (arith, h))

contains-last : (siblings : List Node) (last : Node) → Contains (siblings ++ last ∷ []) last
contains-last siblings last = (length siblings, omega (arith, length-append siblings (last ∷ [])), get_or-append_seam siblings last [] last)

later-in : (x d : Node) (xs : List Node) (k : ℕ) → k < length xs → Contains (x ∷ xs) (get_or xs k d)
later-in x d xs k lt =
    let up : suc k < length (x ∷ xs) = omega (arith, lt) in
    (suc k, up, same xs k (get_or xs k d) d lt)
  where
    same : (zs : List Node) (j : ℕ) (p q : Node) → j < length zs → get_or zs j p ≡ get_or zs j q
    same [] j p q h = absurd (omega (arith, h))
    same (z ∷ zs) zero p q h = refl
    same (z ∷ zs) (suc j) p q h = same zs j p q (omega (arith, h))

first-in : (x : Node) (xs : List Node) → Contains (x ∷ xs) x
first-in x xs = let some : 0 < length (x ∷ xs) = omega arith in (0, some, refl)

sibling-in : (side : Side) (siblings : List Node) (last : Node) (k : ℕ) (d : Node) → k < length siblings → Contains (placed side siblings last) (get_or siblings k d)
sibling-in Front siblings last k d lt = later-in last d siblings k lt
sibling-in Back siblings last k d lt = contains-sibling siblings last k d lt

pub last-in : (side : Side) (siblings : List Node) (last : Node) → Contains (placed side siblings last) last
last-in Front siblings last = first-in last siblings
last-in Back siblings last = contains-last siblings last

pub others-is : (side : Side) (es siblings : List Node) (last d : Node) → es ≡ placed side siblings last → (others_in side es ≡ siblings) × (get_or es (outer side (length es)) d ≡ last)
others-is Front es siblings last d is = (ap (drop 1) is, ap (λ (zs : List Node). get_or zs 0 d) is)
others-is Back es siblings last d is =
    let n : length es - 1 ≡ length siblings = omega (arith, ap (λ (zs : List Node). length zs) is, length-append siblings (last ∷ [])) in (
      (λ i. take (n i) (is i)) ∙ take-append_all siblings (last ∷ []),
      (λ i. get_or (is i) (n i) d) ∙ get_or-append_seam siblings last [] d,
    )
  where
    take-append_all : (xs ys : List Node) → take (length xs) (xs ++ ys) ≡ xs
    take-append_all [] ys = refl
    take-append_all (x ∷ xs) ys = ap (λ (zs : List Node). x ∷ zs) (take-append_all xs ys)

module _ (side : Side) where
  pub last-child : (l : ℕ) (e : Node) (siblings : List Node) (last : Node) → IsOutermost side l e siblings last → Contains (children e) last
  last-child l e siblings last o = subst (λ (es : List Node). Contains es last) (sym o.edges) (last-in side siblings last)

  pub siblings-children : (l : ℕ) (e : Node) (siblings : List Node) (last : Node) → IsOutermost side l e siblings last → All (Contains (children e)) siblings
  siblings-children l e siblings last o = λ k d lt. subst (λ (es : List Node). Contains es (get_or siblings k d)) (sym o.edges) (sibling-in side siblings last k d lt)

  pub siblings-stand : (l : ℕ) (holds : List Node) (e : Node) (siblings : List Node) (last : Node) → IsOutermost side l e siblings last → Stands holds e → All (Stands holds) siblings
  siblings-stand l holds e siblings last o s = λ k d lt. Stands-child holds e (get_or siblings k d) (siblings-children l e siblings last o k d lt) s

  pub last-stands : (l : ℕ) (holds : List Node) (e : Node) (siblings : List Node) (last : Node) → IsOutermost side l e siblings last → Stands holds e → Stands holds last
  last-stands l holds e siblings last o s = Stands-child holds e last (last-child l e siblings last o) s

pub room-none_at : (side : Side) (s : Shape) → room_at side 0 s ≡ 0
unfolding room_at
room-none_at side s = refl

pub children-stand : (holds : List Node) (m : Node) (es : List Node) → es ≡ children m → Stands holds m → All (Stands holds) es
children-stand holds m es is s = subst (All (Stands holds)) (sym is) (λ k d lt. Stands-child holds m (get_or (children m) k d) (Contains-get_or (children m) k d lt) s)

-- the edges' lengths are together the node's
pub edges-length : (l : ℕ) (m : Node) (es : List Node) → es ≡ children m → IsTreeAt (suc l) m → sum_by (λ (e : Node). e.0.length) es ≡ m.0.length
edges-length l m es is tree =
    ap (sum_by (λ (e : Node). e.0.length)) is
    ∙ (sym (sum-lengths (children m)) ∙ (ap (sum_by length_of) (sym (children-shape m)) ∙ (sym tree.node.long ∙ length-shape m)))

pub siblings-length : (side : Side) (l : ℕ) (m : Node) (siblings : List Node) (last : Node) → IsTreeAt (suc l) m → IsOutermost side l m siblings last → sum_by (λ (e : Node). e.0.length) siblings + last.0.length ≡ m.0.length
siblings-length side l m siblings last tree o = sym (sum-last side) ∙ edges-length l m (placed side siblings last) (sym o.edges) tree
  where
    sum-last : (s : Side) → sum_by (λ (e : Node). e.0.length) (placed s siblings last) ≡ sum_by (λ (e : Node). e.0.length) siblings + last.0.length
    sum-last Front = omega (arith, sum_by-append (λ (e : Node). e.0.length) (last ∷ []) siblings)
    sum-last Back = omega (arith, sum_by-append (λ (e : Node). e.0.length) siblings (last ∷ []))
