-- How many nodes trees have: a full node's are known, a tree of many data edges has at most twice as many nodes as these,
-- and each data edge that is taken in adds at most one node a level.
use Rattle.std.proofs.Common.{ℕ, zero, suc, ◌≡◌, ◌+◌, ◌-◌, ◌*◌, ◌<◌, ◌≤◌, List, [], ◌∷◌, length, sum_by, take, drop, Option, take-append-drop, length-take, length-drop, append-nil, refl, sym, ap, subst, ◌∙◌, arith}
use Rattle.std.specs.List.{All}
use Rattle.std.specs.Prelude.{unwrap_or}
use Rattle.std.proofs.lemmas.List.Sums.{sum_by-append}
use Rattle.std.proofs.lemmas.List.Elements.{All-cons, All-nil}
use Rattle.std.proofs.Math.Nat.{suc-mul}
use mathlib.Core.Logic.{dite}
use native.Mathlib.Decide.{ℕ_discrete, dec_lt}
use Rattle.node_forest.specs.declared.side.Side.{Side}
use Rattle.node_forest.specs.Forest.{forest, node_count}
use Rattle.tree_shapes.specs.Shape.{Shape, level, branch_over, IsNode}
use Rattle.tree_shapes.specs.Growth.{placed, wrapped}
use Rattle.tree_shapes.specs.Room.{most_under, room_at, taken_in, filled, packed, laid, room_outside}
use Rattle.tree_shapes.specs.Nodes.{nodes_in, IsLeaf}
use Rattle.tree_shapes.proofs.GrowthLaws.{length-placed, All-placed, sum-placed}
use Rattle.tree_shapes.proofs.RoomLaws.{most-some, opens, grown-below, grown-beside, room-none_grown, room-over, takes, laid-group, laid-nil, packed-node, packed-room, room-outside_placed}

nodes-forest : (es : List Shape) → node_count (forest es) ≡ sum_by nodes_in es
nodes-forest [] = refl
nodes-forest (e ∷ es) = omega (arith, nodes-forest es, sum_by-append nodes_in (e ∷ []) es)

pub nodes-over : (l : ℕ) (es : List Shape) → nodes_in (branch_over l es) ≡ sum_by nodes_in es + 1
unfolding branch_over
nodes-over l es = ap (λ (n : ℕ). n + 1) (nodes-forest es)

most-next : (l : ℕ) → most_under (suc l) ≡ 6 * most_under l
unfolding most_under
most-next l = refl

most-zero : most_under 0 ≡ 1
unfolding most_under
most-zero = refl

-- how many nodes a full node of this level has, with itself
unfoldable pub full_nodes : ℕ → ℕ
full_nodes zero = 1
full_nodes (suc l) = 6 * full_nodes l + 1

full-next : (l : ℕ) → full_nodes (suc l) ≡ 6 * full_nodes l + 1
unfolding full_nodes
full-next l = refl

full-zero : full_nodes 0 ≡ 1
unfolding full_nodes
full-zero = refl

pub full-count : (l : ℕ) → 5 * full_nodes l + 1 ≡ 6 * most_under l
full-count zero = omega (arith, full-zero, most-zero)
full-count (suc l) = omega (arith, full-next l, most-next l, full-count l)

-- a full node has room to spare for one node a level
full-spare : (l : ℕ) → full_nodes l + l ≤ 2 * most_under l
full-spare zero = omega (arith, full-zero, most-zero)
full-spare (suc l) = omega (arith, full-next l, most-next l, full-spare l, full-count l, most-some l)

-- ---- data edges of one node each
leaves-nodes : (zs : List Shape) → All IsLeaf zs → All (IsNode 0) zs
leaves-nodes zs all = λ k d lt. (all k d lt).node

All-leaf_take : (zs : List Shape) (n : ℕ) → All IsLeaf zs → All IsLeaf (take n zs)
All-leaf_take zs zero all = λ k d lt. absurd (omega (arith, lt))
All-leaf_take [] (suc n) all = λ k d lt. absurd (omega (arith, lt))
All-leaf_take (z ∷ zs) (suc n) all = All-cons IsLeaf z (take n zs) (all 0 z (omega arith)) (All-leaf_take zs n (λ k d lt. let up : suc k < length (z ∷ zs) = omega (arith, lt) in all (suc k) d up))

All-leaf_drop : (zs : List Shape) (n : ℕ) → All IsLeaf zs → All IsLeaf (drop n zs)
All-leaf_drop zs zero all = all
All-leaf_drop [] (suc n) all = λ k d lt. absurd (omega (arith, lt))
All-leaf_drop (z ∷ zs) (suc n) all = All-leaf_drop zs n (λ k d lt. let up : suc k < length (z ∷ zs) = omega (arith, lt) in all (suc k) d up)

abbrev FewNodes : Side → ℕ → Type 0
FewNodes side l = (zs : List Shape) → All IsLeaf zs → 0 < length zs → length zs ≤ most_under l → nodes_in (packed side l zs) + 1 ≤ 2 * length zs + l

abbrev FullNodes : Side → ℕ → Type 0
FullNodes side l = (zs : List Shape) → All IsLeaf zs → length zs ≡ most_under l → nodes_in (packed side l zs) ≡ full_nodes l

module _ (side : Side) (l : ℕ) (few : FewNodes side l) (full : FullNodes side l) where
  -- one group, and nothing behind it
  last-group : (es zs : List Shape) → length es < 6 → All (IsNode l) es → room_outside side l es ≡ 0 → All IsLeaf zs → 0 < length zs → length zs ≤ most_under l → nodes_in (laid side l es zs) ≡ sum_by nodes_in es + nodes_in (packed side l zs) + 1
  last-group es zs short nodes none all some fits =
      ap (λ (xs : List Shape). nodes_in (laid side l es xs)) (sym (append-nil zs))
      ∙ (ap nodes_in (laid-group side l es zs [] none short nodes some (leaves-nodes zs all) fits ∙ laid-nil side l (placed side es (packed side l zs)))
      ∙ (nodes-over l (placed side es (packed side l zs)) ∙ ap (λ (n : ℕ). n + 1) (sum-placed side nodes_in es (packed side l zs))))

  record IsFirst (es zs : List Shape) : Type 0 where
    pub group : List Shape
    pub rest : List Shape
    pub is : laid side l es zs ≡ laid side l (placed side es (packed side l group)) rest
    pub leaves : All IsLeaf rest
    pub size : nodes_in (packed side l group) ≡ full_nodes l
    pub left : length rest + most_under l ≡ length zs
    pub nodes : All (IsNode l) (placed side es (packed side l group))
    pub none : room_outside side l (placed side es (packed side l group)) ≡ 0

  -- the first group is full where there are more
  first-group : (es zs : List Shape) → length es < 6 → All (IsNode l) es → room_outside side l es ≡ 0 → All IsLeaf zs → most_under l ≤ length zs → IsFirst es zs
  first-group es zs short nodes none all more =
      let m : ℕ = most_under l in
      let a : List Shape = take m zs in
      let b : List Shape = drop m zs in
      let some = most-some l in
      let long : length a ≡ m = omega (arith, length-take m zs, more) in
      let leaves = All-leaf_take zs m all in
      let node = packed-node side l a (omega (arith, long, some)) (leaves-nodes a leaves) (omega (arith, long)) in
      record {
        group = a;
        rest = b;
        is = ap (laid side l es) (sym (take-append-drop m zs)) ∙ laid-group side l es a b none short nodes (omega (arith, long, some)) (leaves-nodes a leaves) (omega (arith, long));
        leaves = All-leaf_drop zs m all;
        size = full a leaves long;
        left = omega (arith, length-drop m zs, more);
        nodes = All-placed side (IsNode l) es (packed side l a) nodes node;
        none = room-outside_placed side l es (packed side l a) ∙ omega (arith, packed-room side l a (omega (arith, long, some)) (leaves-nodes a leaves) (omega (arith, long)), long);
      }

  laid-nodes : (m : ℕ) (es zs : List Shape) → length es + m ≡ 6 → All (IsNode l) es → room_outside side l es ≡ 0 → All IsLeaf zs → 0 < length zs → length zs ≤ m * most_under l → nodes_in (laid side l es zs) ≤ sum_by nodes_in es + 2 * length zs + l
  laid-nodes zero es zs six nodes none all some fits = absurd (omega (arith, fits, some))
  laid-nodes (suc m) es zs six nodes none all some fits = dite (dec_lt (most_under l) (length zs))
      (λ more.
      let f = first-group es zs (omega (arith, six)) nodes none all (omega (arith, more)) in
      let count = length-placed side es (packed side l f.group) in
      let r = laid-nodes m (placed side es (packed side l f.group)) f.rest (omega (arith, six, count)) f.nodes f.none f.leaves (omega (arith, f.left, more)) (omega (arith, f.left, fits, suc-mul m (most_under l))) in
      omega (arith, ap nodes_in f.is, r, sum-placed side nodes_in es (packed side l f.group), f.size, f.left, full-spare l))
      (λ less.
      let g = last-group es zs (omega (arith, six)) nodes none all some (omega arith) in
      omega (arith, g, few zs all some (omega arith)))

  laid-full : (m : ℕ) (es zs : List Shape) → length es + m ≡ 6 → All (IsNode l) es → room_outside side l es ≡ 0 → All IsLeaf zs → length zs ≡ m * most_under l → nodes_in (laid side l es zs) ≡ sum_by nodes_in es + m * full_nodes l + 1
  laid-full zero es zs six nodes none all long = ap (λ (xs : List Shape). nodes_in (laid side l es xs)) (nothing zs (omega (arith, long))) ∙ (ap nodes_in (laid-nil side l es) ∙ (nodes-over l es ∙ omega arith))
    where
      nothing : (xs : List Shape) → length xs ≡ 0 → xs ≡ []
      nothing [] z = refl
      nothing (x ∷ xs) z = absurd (omega (arith, z))
  laid-full (suc m) es zs six nodes none all long =
      let f = first-group es zs (omega (arith, six)) nodes none all (omega (arith, long, suc-mul m (most_under l))) in
      let count = length-placed side es (packed side l f.group) in
      let r = laid-full m (placed side es (packed side l f.group)) f.rest (omega (arith, six, count)) f.nodes f.none f.leaves (omega (arith, f.left, long, suc-mul m (most_under l))) in
      omega (arith, ap nodes_in f.is, r, sum-placed side nodes_in es (packed side l f.group), f.size, suc-mul m (full_nodes l))

  -- more than one group at the root
  laid-twice : (zs : List Shape) → All IsLeaf zs → most_under l < length zs → length zs ≤ 6 * most_under l → nodes_in (laid side l [] zs) ≤ 2 * length zs
  laid-twice zs all more fits =
      let f = first-group [] zs (omega arith) (All-nil _) refl all (omega (arith, more)) in
      let count = length-placed side [] (packed side l f.group) in
      let r = laid-nodes 5 (placed side [] (packed side l f.group)) f.rest (omega (arith, count)) f.nodes f.none f.leaves (omega (arith, f.left, more)) (omega (arith, f.left, fits)) in
      omega (arith, ap nodes_in f.is, r, sum-placed side nodes_in [] (packed side l f.group), f.size, f.left, full-spare l)

packed-leaf : (side : Side) (zs : List Shape) → All IsLeaf zs → length zs ≡ 1 → nodes_in (packed side 0 zs) ≡ 1
unfolding wrapped
packed-leaf side [] all long = absurd (omega (arith, long))
packed-leaf side (x ∷ []) all long = (all 0 x (omega arith)).one
packed-leaf side (x ∷ y ∷ zs) all long = absurd (omega (arith, long))

mutual
  pub packed-few : (side : Side) (l : ℕ) → FewNodes side l
  packed-few side zero zs all some fits =
      let one : length zs ≡ 1 = omega (arith, some, fits, most-zero) in
      omega (arith, packed-leaf side zs all one, one)
  packed-few side (suc l) zs all some fits =
      omega (arith, laid-nodes side l (packed-few side l) (packed-full side l) 6 [] zs (omega arith) (All-nil _) refl all some (omega (arith, fits, most-next l)))

  pub packed-full : (side : Side) (l : ℕ) → FullNodes side l
  packed-full side zero zs all long = packed-leaf side zs all (long ∙ most-zero) ∙ sym full-zero
  packed-full side (suc l) zs all long =
      omega (arith, laid-full side l (packed-few side l) (packed-full side l) 6 [] zs (omega arith) (All-nil _) refl all (omega (arith, long, most-next l)), full-next l)

-- a new tree of data edges has at most twice as many nodes
pub packed-twice : (side : Side) (h : ℕ) (zs : List Shape) → All IsLeaf zs → 0 < length zs → length zs ≤ most_under h → ((i : ℕ) → h ≡ suc i → most_under i < length zs) → nodes_in (packed side h zs) ≤ 2 * length zs
packed-twice side zero zs all some fits least =
    let one : length zs ≡ 1 = omega (arith, some, fits, most-zero) in
    omega (arith, packed-leaf side zs all one, one)
packed-twice side (suc l) zs all some fits least = laid-twice side l (packed-few side l) (packed-full side l) zs all (least l refl) (omega (arith, fits, most-next l))

-- ---- data edges taken in
nodes-wrapped : (l : ℕ) (x : Shape) → nodes_in (wrapped l x) ≡ nodes_in x + l
unfolding wrapped
nodes-wrapped zero x = omega arith
nodes-wrapped (suc l) x = omega (arith, nodes-over (level x + l) (wrapped l x ∷ []), nodes-wrapped l x)

pub nodes-lifted : (j : ℕ) (s : Shape) → nodes_in (wrapped j s) ≡ nodes_in s + j
nodes-lifted j s = nodes-wrapped j s

module _ (side : Side) where
  nodes-placed : (l : ℕ) (fs : List Shape) (c : Shape) → nodes_in (branch_over l (placed side fs c)) ≡ sum_by nodes_in fs + nodes_in c + 1
  nodes-placed l fs c = nodes-over l (placed side fs c) ∙ ap (λ (n : ℕ). n + 1) (sum-placed side nodes_in fs c)

  taken-below : (l : ℕ) (fs : List Shape) (c x : Shape) → IsNode l c → IsNode 0 x → 0 < room_at side l c → nodes_in (taken_in side l c x) ≤ nodes_in c + (l + 1) → nodes_in (taken_in side (suc l) (branch_over l (placed side fs c)) x) ≤ nodes_in (branch_over l (placed side fs c)) + (suc l + 1)
  taken-below l fs c x node one some few =
      let m = branch_over l (placed side fs c) in
      let t = takes side l c x node one some in
      let e : taken_in side (suc l) m x ≡ branch_over l (placed side fs t.new) = ap (λ (o : Option Shape). unwrap_or o m) (grown-below side l fs c x t.new t.is) in
      let f : taken_in side l c x ≡ t.new = ap (λ (o : Option Shape). unwrap_or o c) t.is in
      omega (arith, ap nodes_in e, ap nodes_in f, few, nodes-placed l fs c, nodes-placed l fs t.new)

  taken-beside : (l : ℕ) (fs : List Shape) (c x : Shape) → IsNode l c → IsLeaf x → room_at side l c ≡ 0 → suc (length fs) < 6 → nodes_in (taken_in side (suc l) (branch_over l (placed side fs c)) x) ≤ nodes_in (branch_over l (placed side fs c)) + (suc l + 1)
  taken-beside l fs c x node leaf none few =
      let m = branch_over l (placed side fs c) in
      let e : taken_in side (suc l) m x ≡ branch_over l (placed side (placed side fs c) (wrapped l x)) = ap (λ (o : Option Shape). unwrap_or o m) (grown-beside side l fs c x (room-none_grown side l c x node none) few) in
      omega (arith, ap nodes_in e, nodes-placed l (placed side fs c) (wrapped l x), sum-placed side nodes_in fs c, nodes-placed l fs c, nodes-wrapped l x, leaf.one)

  -- a data edge adds at most one node a level
  taken-few : (l : ℕ) (m x : Shape) → IsNode l m → IsLeaf x → 0 < room_at side l m → nodes_in (taken_in side l m x) ≤ nodes_in m + (l + 1)
  unfolding room_at
  taken-few zero m x node leaf some = absurd (omega (arith, some))
  taken-few (suc l) m x node leaf some =
      let o = opens side l m node in
      let r : room_at side (suc l) m ≡ room_at side l o.one + (6 - suc (length o.rest)) * most_under l = ap (room_at side (suc l)) o.is ∙ room-over side l o.rest o.one in
      subst (λ (z : Shape). nodes_in (taken_in side (suc l) z x) ≤ nodes_in z + (suc l + 1)) (sym o.is) (dite (ℕ_discrete (room_at side l o.one) 0)
      (λ none. taken-beside l o.rest o.one x o.node leaf none (more-room (length o.rest) (most_under l) (omega (arith, r, none, some))))
      (λ more. taken-below l o.rest o.one x o.node leaf.node (omega arith) (taken-few l o.one x o.node leaf (omega arith))))
    where
      more-room : (n p : ℕ) → 0 < (6 - suc n) * p → suc n < 6
      more-room n p h = dite (dec_lt (suc n) 6)
          (λ lt. lt)
          (λ ge. let z : 6 - suc n ≡ 0 = omega arith in absurd (omega (arith, h, ap (λ (k : ℕ). k * p) z)))

  pub filled-few : (l : ℕ) (m : Shape) (xs : List Shape) → IsNode l m → All IsLeaf xs → length xs ≤ room_at side l m → nodes_in (filled side l m xs) ≤ nodes_in m + length xs * (l + 1)
  filled-few l m [] node all fits = omega arith
  filled-few l m (x ∷ xs) node all fits =
      let leaf : IsLeaf x = all 0 x (omega arith) in
      let t = takes side l m x node leaf.node (omega arith) in
      let e : taken_in side l m x ≡ t.new = ap (λ (o : Option Shape). unwrap_or o m) t.is in
      let r = filled-few l t.new xs t.node (λ k d lt. let up : suc k < length (x ∷ xs) = omega (arith, lt) in all (suc k) d up) (omega (arith, t.room, fits)) in
      omega (arith, ap (λ (z : Shape). nodes_in (filled side l z xs)) e, r, taken-few l m x node leaf (omega arith), ap nodes_in e, suc-mul (length xs) (l + 1))
