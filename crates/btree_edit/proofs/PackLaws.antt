-- Trees over the flats of a text, group by group and level by level.
use Rattle.std.proofs.Common.{ℕ, zero, suc, ◌≡◌, ◌+◌, ◌-◌, ◌*◌, ◌<◌, ◌≤◌, Bool, true, false, eqb, eq-eqb, List, [], ◌∷◌, ◌++◌, length, sum_by, map, reverse, refl, sym, ap, subst, ◌∙◌, inl, inr, ◌⊎◌, append-nil, append_assoc, arith}
use Rattle.std.specs.List.{All, flat_map}
use Rattle.std.specs.Prelude.{Contains}
use Rattle.std.proofs.lemmas.List.{length-append, length-map, map-append, get_or_append_left}
use Rattle.std.proofs.lemmas.List.Sums.{sum_by-append}
use Rattle.std.proofs.lemmas.List.Elements.{All-map, All-nil, Contains-get_or}
use Rattle.std.proofs.lemmas.List.Concat.{flat_map-append}
use Rattle.std.proofs.lemmas.Bool.{eqb-true}
use mathlib.Core.Logic.{dite}
use native.Mathlib.Decide.{ℕ_discrete, dec_lt}
use Rattle.node_forest.specs.declared.kind.Kind.{Kind}
use Rattle.node_forest.specs.declared.kind.Kind.TheVariants.{Flat, External, Part, Sum, Branch}
use Rattle.node_forest.specs.declared.side.Side.{Side}
use Rattle.node_forest.specs.declared.side.Side.TheVariants.{Front, Back}
use Rattle.node_forest.specs.Forest.{Forest, empty, grow, node_count, map_forest}
use Rattle.node_forest.specs.Label.{Label, Node}
use Rattle.node_edges.specs.Body.{IsBranchOf}
use Rattle.tree_shapes.specs.Shape.{Form, Shape, level, branch_over, IsNode, IsTree, IsRootOf, IsRoot}
use Rattle.node_edges.specs.Text.{text}
use Rattle.node_edges.specs.Trees.{form_of, shape_of, IsTreeAt, IsWellFormed}
use Rattle.node_edges.proofs.EdgeLaws.{shape-branch}
use Rattle.node_edges.proofs.TreeLaws.{All-tail, branch-tree, text-branch}
use Rattle.tree_shapes.proofs.ShapeLaws.{level-node}
use Rattle.tree_shapes.proofs.FlatLaws.{level-flat, flats-leaves, flats-nodes, length-flats, count-none, count-some, flats-none, most-next}
use Rattle.node_edges.proofs.TextLaws.{length-text}
use Rattle.tree_shapes.specs.Flats.{flat_shape, piece_count, flats, built, new_shape}
use Rattle.tree_shapes.specs.Growth.{placed, beside, wrapped}
use Rattle.tree_shapes.specs.Room.{most_under, room_at, filled, packed, laid, room_outside, IsLift, IsRooted}
use Rattle.tree_shapes.specs.Pieces.{pieces, in_turn, IsParted}
use Rattle.tree_shapes.specs.Nodes as shapes
use Rattle.tree_shapes.specs.Nodes.{IsLeaf}
use Rattle.tree_shapes.proofs.NodeLaws.{packed-twice}
use Rattle.tree_shapes.proofs.GrowthLaws.{length-placed, All-placed}
use Rattle.tree_shapes.proofs.PieceLaws.{pieces-one, pieces-many}
use Rattle.tree_shapes.proofs.RoomLaws.{most-some, room-one, room-wrapped, laid-group, laid-nil, packed-room, room-outside_placed, with_all-rooted, with_all-lifted, with_all-level}
use Rattle.btree_node.proofs.WidthLaws.{most-none}
use Rattle.btree_node.proofs.ListLaws.{map-placed}
use Rattle.btree_edit.specs.Trees.{IsCut, IsTreeOf, IsPartway}

nothing : {X : Type 0} (xs : List X) → length xs ≡ 0 → xs ≡ []
nothing [] z = refl
nothing (x ∷ xs) z = absurd (omega (arith, z))

pub flats-parted : (side : Side) (n most a : ℕ) → IsParted side n most a → flats side n ≡ flats side a ++ flats side (n - a)
flats-parted side n most a p = ap (map flat_shape) p.lists ∙ map-append flat_shape (in_turn side (pieces a)) (in_turn side (pieces (n - a)))

pub near-some : (side : Side) (n most a : ℕ) → IsParted side n most a → 0 < n → 0 < most → 0 < a
near-some side n most a p some room = dite (ℕ_discrete a 0)
    (λ z. absurd (go p.whole z))
    (λ nz. omega (arith, nz))
  where
    go : (n - a ≡ 0) ⊎ (piece_count a ≡ most) → a ≡ 0 → ⊥
    go (inl e) z = absurd (omega (arith, e, z, some))
    go (inr e) z = absurd (omega (arith, e, count-none a z, room))

pub used-up : (side : Side) (n most a : ℕ) → IsParted side n most a → 0 < n - a → piece_count a ≡ most
used-up side n most a p more = go p.whole
  where
    go : (n - a ≡ 0) ⊎ (piece_count a ≡ most) → piece_count a ≡ most
    go (inl e) = absurd (omega (arith, e, more))
    go (inr e) = e

pub more-room : (n m w : ℕ) → 0 < m → m ≤ (6 - n) * w → n < 6
more-room n m w some le = dite (dec_lt n 6)
    (λ lt. lt)
    (λ no. let z : 6 - n ≡ 0 = omega arith in
    let q : (6 - n) * w ≡ 0 * w = ap (λ (k : ℕ). k * w) z in
    absurd (omega (arith, q, some, le)))

-- ---- texts
pub beside-step : (side : Side) (t near far : List ℕ) → beside side (beside side t near) far ≡ beside side t (beside side near far)
beside-step Front t near far = sym (append_assoc far near t)
beside-step Back t near far = append_assoc t near far

pub text-placed : (side : Side) (es : List Node) (e : Node) → flat_map text (placed side es e) ≡ beside side (flat_map text es) (text e)
text-placed Front es e = refl
text-placed Back es e = flat_map-append text es (e ∷ []) ∙ ap (λ (bs : List ℕ). flat_map text es ++ bs) (append-nil (text e))

pub beside-none : (side : Side) (t rest : List ℕ) → length rest ≡ 0 → beside side t rest ≡ t
beside-none Front t rest z = ap (λ (bs : List ℕ). bs ++ t) (nothing rest z)
beside-none Back t rest z = ap (λ (bs : List ℕ). t ++ bs) (nothing rest z) ∙ append-nil t

pub beside-nothing : (side : Side) (bytes : List ℕ) → beside side [] bytes ≡ bytes
beside-nothing Front bytes = append-nil bytes
beside-nothing Back bytes = refl

pub length-beside : (side : Side) (t bytes : List ℕ) → length (beside side t bytes) ≡ length t + length bytes
length-beside Front t bytes = length-append bytes t ∙ omega arith
length-beside Back t bytes = length-append t bytes

-- ---- from group to group
contains-more : (side : Side) (es : List Node) (e : Node) {d : Node} → Contains es d → Contains (placed side es e) d
contains-more Front es e (k, lt, is) = let up : suc k < length (e ∷ es) = omega (arith, lt) in (suc k, up, is)
contains-more Back es e {d} (k, lt, is) = (k, omega (arith, lt, length-append es (e ∷ [])), get_or_append_left es (e ∷ []) d k lt ∙ is)

shapes-nodes : (l : ℕ) (es : List Node) → All (IsTreeAt l) es → All (IsNode l) (map shape_of es)
shapes-nodes l es all = All-map (IsNode l) shape_of es (λ k d lt. (all k d lt).node)

pub partway-start : (side : Side) (l : ℕ) (es : List Node) (bytes : List ℕ) → length es ≤ 6 → All (IsTreeAt l) es → piece_count (length bytes) ≤ (6 - length es) * most_under l → (0 < length bytes → room_outside side l (map shape_of es) ≡ 0) → IsPartway side l es es bytes bytes
partway-start side l es bytes few trees fits full = record { trees = trees; few = few; less = omega arith; laid = refl; full = full; left = fits; text = refl; kept = λ k d lt. Contains-get_or es k d lt }

pub partway-few : (side : Side) (l : ℕ) (before es : List Node) (bytes rest : List ℕ) → IsPartway side l before es bytes rest → 0 < length rest → length es < 6
partway-few side l before es bytes rest p more = more-room (length es) (piece_count (length rest)) (most_under l) (count-some (length rest) more) p.left

pub partway-next : (side : Side) (l : ℕ) (before es : List Node) (bytes rest near far : List ℕ) (e : Node) → IsPartway side l before es bytes rest → 0 < length rest → IsCut side rest (most_under l) near far → IsTreeOf l (packed side l (flats side (length near))) near e → IsPartway side l before (placed side es e) bytes far
partway-next side l before es bytes rest near far e p more cut t =
    let n : ℕ = length rest in
    let a : ℕ = length near in
    let w : ℕ = most_under l in
    let wide = most-some l in
    let few = partway-few side l before es bytes rest p more in
    let count = length-placed side es e in
    let some = near-some side n w a cut.parted more wide in
    let shapes : map shape_of (placed side es e) ≡ placed side (map shape_of es) (packed side l (flats side a)) = map-placed shape_of side es e ∙ ap (λ (s : Shape). placed side (map shape_of es) s) t.shape in
    let group_some : 0 < length (flats side a) = omega (arith, length-flats side a, count-some a some) in
    let group_few : length (flats side a) ≤ w = omega (arith, length-flats side a, cut.parted.few) in
    let group : laid side l (map shape_of es) (flats side n) ≡ laid side l (placed side (map shape_of es) (packed side l (flats side a))) (flats side (n - a)) =
    ap (laid side l (map shape_of es)) (flats-parted side n w a cut.parted)
    ∙ laid-group side l (map shape_of es) (flats side a) (flats side (n - a)) (p.full more) (omega (arith, few, length-map es shape_of)) (shapes-nodes l es p.trees) group_some (flats-nodes side a) group_few in
    record {
      trees = All-placed side (IsTreeAt l) es e p.trees t.tree;
      few = omega (arith, few, count);
      less = omega (arith, cut.far_long, p.less);
      laid = (λ i. laid side l (shapes i) (flats side (cut.far_long i))) ∙ (sym group ∙ p.laid);
      full = λ left.
          let whole : piece_count a ≡ w = used-up side n w a cut.parted (omega (arith, left, cut.far_long)) in
          ap (room_outside side l) shapes ∙ (room-outside_placed side l (map shape_of es) (packed side l (flats side a))
          ∙ omega (arith, packed-room side l (flats side a) group_some (flats-nodes side a) group_few, length-flats side a, whole));
      left =
          let c : piece_count (length far) ≡ piece_count (n - a) = ap (λ (k : ℕ). piece_count k) cut.far_long in
          let q : (6 - length (placed side es e)) * w ≡ (6 - suc (length es)) * w = ap (λ (j : ℕ). (6 - j) * w) count in
          dite (ℕ_discrete (n - a) 0)
          (λ z. omega (arith, c, count-none (n - a) z))
          (λ nz. omega (arith, c, q, room-one (length es) w few, p.left, cut.parted.count, used-up side n w a cut.parted (omega (arith, nz))));
      kept = λ k d lt. contains-more side es e (p.kept k d lt);
      text = ap (λ (bs : List ℕ). beside side bs far) (text-placed side es e ∙ ap (beside side (flat_map text es)) t.text)
          ∙ (beside-step side (flat_map text es) near far ∙ (ap (beside side (flat_map text es)) (sym cut.whole) ∙ p.text));
    }

-- no edges so far
pub none-trees : (l : ℕ) (es : List Node) → es ≡ [] → All (IsTreeAt l) es
none-trees l es e = subst (All (IsTreeAt l)) (sym e) (All-nil _)

pub none-fits : (n l : ℕ) (es : List Node) → es ≡ [] → n ≤ most_under (suc l) → n ≤ (6 - length es) * most_under l
none-fits n l es e h =
    let q : (6 - length es) * most_under l ≡ 6 * most_under l = ap (λ (zs : List Node). (6 - length zs) * most_under l) e in
    omega (arith, q, h, most-next l)

pub none-full : (side : Side) (l : ℕ) (es : List Node) → es ≡ [] → room_outside side l (map shape_of es) ≡ 0
none-full side l es e = ap (λ (zs : List Node). room_outside side l (map shape_of zs)) e

-- all bytes stand in edges
pub partway-laid : (side : Side) (l : ℕ) (before es : List Node) (bytes rest : List ℕ) → IsPartway side l before es bytes rest → length rest ≡ 0 → laid side l (map shape_of before) (flats side (length bytes)) ≡ branch_over l (map shape_of es)
partway-laid side l before es bytes rest p z = sym p.laid ∙ (ap (laid side l (map shape_of es)) (flats-none side (length rest) z) ∙ laid-nil side l (map shape_of es))

pub partway-text : (side : Side) (l : ℕ) (before es : List Node) (bytes rest : List ℕ) → IsPartway side l before es bytes rest → length rest ≡ 0 → flat_map text es ≡ beside side (flat_map text before) bytes
partway-text side l before es bytes rest p z = sym (beside-none side (flat_map text es) rest z) ∙ p.text

-- ---- nodes
pub lengths-joined : (l : ℕ) (es : List Node) → All (IsTreeAt l) es → sum_by (λ (m : Node). m.0.length) es ≡ length (flat_map text es)
lengths-joined l [] all = refl
lengths-joined l (m ∷ es) all =
    omega (arith, length-append (text m) (flat_map text es), length-text l m (all 0 m (omega arith)), lengths-joined l es (All-tail (IsTreeAt l) m es all), sum_by-append (λ (m : Node). m.0.length) (m ∷ []) es)

pub lengths-text : (l : ℕ) (es : List Node) (bytes : List ℕ) → All (IsTreeAt l) es → flat_map text es ≡ bytes → sum_by (λ (m : Node). m.0.length) es ≡ length bytes
lengths-text l es bytes all is = lengths-joined l es all ∙ ap (λ (bs : List ℕ). length bs) is

pub some-edges : (es : List Node) (bytes : List ℕ) → flat_map text es ≡ bytes → 0 < length bytes → 0 < length es
some-edges [] bytes is some = absurd (omega (arith, ap (λ (bs : List ℕ). length bs) is, some))
some-edges (e ∷ es) bytes is some = omega arith

turned-one : (side : Side) (n : ℕ) → 0 < n → n ≤ 4083 → in_turn side (pieces n) ≡ n ∷ []
turned-one Front n some few = ap reverse (pieces-one n some few)
turned-one Back n some few = pieces-one n some few

pub one-piece : (n : ℕ) → piece_count n ≤ most_under 0 → n ≤ 4083
one-piece n h = dite (dec_lt (4083 * 1) n) (λ lt. absurd (omega (arith, pieces-many n 1 lt, h, most-none))) (λ ge. omega (arith, ge))

packed-one : (side : Side) (n : ℕ) → 0 < n → n ≤ 4083 → packed side 0 (flats side n) ≡ flat_shape n
unfolding wrapped
packed-one side n some few = ap (λ (ps : List ℕ). packed side 0 (map flat_shape ps)) (turned-one side n some few)

node-root : (n more l : ℕ) (k : Kind) (cs : Forest Form) → (let s : Shape = (record { kind = k; length = n; more = more }, cs) in IsRootOf k s → IsNode l s → IsTree s)
unfolding level
node-root n more l Flat cs root node = root
node-root n more l External cs root node = root
node-root n more l Part cs root node = root
node-root n more zero Sum cs root node = absurd node
node-root n more (suc l) Sum cs root node = absurd (omega (arith, node.at_level))
node-root n more l Branch cs root node = root

root-node : (n more l : ℕ) (k : Kind) (cs : Forest Form) → (let s : Shape = (record { kind = k; length = n; more = more }, cs) in IsTree s → IsNode l s → IsRootOf k s)
unfolding level
root-node n more l Flat cs root node = root
root-node n more l External cs root node = root
root-node n more l Part cs root node = root
root-node n more zero Sum cs root node = absurd node
root-node n more (suc l) Sum cs root node = absurd (omega (arith, node.at_level))
root-node n more l Branch cs root node = root

flat-at : (s : Shape) (n : ℕ) → s ≡ flat_shape n → IsRoot s → IsNode 0 s
unfolding level
flat-at s n is root = subst (IsNode 0) (sym is) (subst IsRoot is root).node

pub flat-tree : (side : Side) (bytes : List ℕ) (e : Node) → 0 < length bytes → length bytes ≤ 4083 → IsWellFormed e → shape_of e ≡ flat_shape (length bytes) → text e ≡ bytes → IsTreeOf 0 (packed side 0 (flats side (length bytes))) bytes e
flat-tree side bytes e some few formed shape is = record {
  tree = record { at = ap level shape ∙ level-flat (length bytes); node = flat-at (shape_of e) (length bytes) shape formed.root; filled = formed.filled };
  shape = shape ∙ sym (packed-one side (length bytes) some few);
  text = is;
}

-- a Branch of the groups is the tree of the level above
pub branch-packed : (side : Side) (l : ℕ) (es : List Node) (bytes : List ℕ) (e : Node) → 0 < length bytes → IsBranchOf l es e → All (IsTreeAt l) es → 0 < length es → length es ≤ 6 → packed side (suc l) (flats side (length bytes)) ≡ branch_over l (map shape_of es) → flat_map text es ≡ bytes → IsTreeOf (suc l) (packed side (suc l) (flats side (length bytes))) bytes e
branch-packed side l es bytes e more branch all some few shapes is = record {
  tree = branch-tree e l es branch some few all;
  shape = shape-branch e l es branch ∙ sym shapes;
  text = text-branch e l es branch ∙ is;
}

-- ---- the whole
built-packed : (h : ℕ) (xs : List Shape) → 0 < length xs → All (IsNode 0) xs → length xs ≤ most_under h → ((i : ℕ) → h ≡ suc i → most_under i < length xs) → (built xs ≡ packed Back h xs) × (level (built xs) ≡ h) × IsRooted (built xs)
built-packed h [] some all fits least = absurd (omega arith)
built-packed h (x ∷ xs) some all fits least =
    let one = all 0 x (omega arith) in
    let rest : All (IsNode 0) xs = λ k d lt. (let up : suc k < length (x ∷ xs) = omega (arith, lt) in all (suc k) d up) in
    let at : level x ≡ 0 = level-node 0 x one in
    let node : IsNode (level x) x = subst (λ (l : ℕ). IsNode l x) (sym at) one in
    let h_is : level x + h ≡ h = omega (arith, at) in
    let lift : IsLift Back x (length xs) h = record {
      room = omega (arith, fits, room-wrapped Back h x at, ap (λ (l : ℕ). room_at Back l (wrapped h x)) h_is);
      least = λ i is. (let e : level x + i ≡ i = omega (arith, at) in omega (arith, least i is, room-wrapped Back i x at, ap (λ (l : ℕ). room_at Back l (wrapped i x)) e));
    } in (
      with_all-lifted Back h x xs node rest lift ∙ ap (λ (l : ℕ). filled Back l (wrapped h x) xs) h_is,
      with_all-level Back h x xs node rest lift ∙ h_is,
      with_all-rooted Back x xs (record { node = node; wide = λ up. absurd (omega (arith, up, at)) }) rest,
    )

least-flats : (h n : ℕ) → ((i : ℕ) → h ≡ suc i → most_under i < piece_count n) → (i : ℕ) → h ≡ suc i → most_under i < length (flats Back n)
least-flats h n least i is = omega (arith, length-flats Back n, least i is)

module _ (h n : ℕ) (some : 0 < n) (fits : piece_count n ≤ most_under h) (least : (i : ℕ) → h ≡ suc i → most_under i < piece_count n) where
  whole-packed : (new_shape n ≡ packed Back h (flats Back n)) × (level (new_shape n) ≡ h) × IsRooted (new_shape n)
  whole-packed = built-packed h (flats Back n) (omega (arith, length-flats Back n, count-some n some)) (flats-nodes Back n) (omega (arith, length-flats Back n, fits)) (least-flats h n least)

  -- a tree of the least level that holds the bytes is the one that adding its pieces makes
  pub new-shape : new_shape n ≡ packed Back h (flats Back n)
  new-shape = whole-packed.0

  pub new-root : h ≤ 12 → IsTree (new_shape n)
  new-root low = let b = whole-packed in record { node = b.2.node; low = omega (arith, b.1, low); wide = b.2.wide }

  pub new-nodes : (e : Node) → shape_of e ≡ packed Back h (flats Back n) → shapes.nodes_in (shape_of e) ≤ 2 * piece_count n
  new-nodes e shape =
      let long = length-flats Back n in
      let twice = packed-twice Back h (flats Back n) (flats-leaves Back n) (omega (arith, long, count-some n some)) (omega (arith, long, fits)) (least-flats h n least) in
      omega (arith, ap shapes.nodes_in shape, twice, long)

tree-root : (s : Shape) (l : ℕ) → IsTree s → IsNode l s → IsRoot s
tree-root s l tree node = root-node s.0.length s.0.more l s.0.kind s.1 tree node

pub new-formed : (h : ℕ) (bytes : List ℕ) (e : Node) → 0 < length bytes → piece_count (length bytes) ≤ most_under h → ((i : ℕ) → h ≡ suc i → most_under i < piece_count (length bytes)) → h ≤ 12 → IsTreeOf h (packed Back h (flats Back (length bytes))) bytes e → IsWellFormed e
new-formed h bytes e some fits least low t =
    let shape : shape_of e ≡ new_shape (length bytes) = t.shape ∙ sym (new-shape h (length bytes) some fits least) in
    record {
      root = tree-root (shape_of e) h (subst IsTree (sym shape) (new-root h (length bytes) some fits least low)) t.tree.node;
      filled = t.tree.filled;
    }

-- ---- whether there are bytes
pub none-bytes : (n : ℕ) (b : Bool) → b ≡ eqb n 0 → b ≡ true → n ≡ 0
none-bytes n b e h = eqb-true n 0 (sym e ∙ h)

pub some-bytes : (n : ℕ) (b : Bool) → b ≡ eqb n 0 → b ≡ false → 0 < n
some-bytes n b e h = dite (ℕ_discrete n 0)
    (λ z. let yes : b ≡ true = e ∙ eq-eqb n 0 z in absurd (no-both b yes h))
    (λ nz. omega (arith, nz))
  where
    no-both : (x : Bool) → x ≡ true → x ≡ false → ⊥
    no-both x p q = absurd (cc)

pub cut-same : (side : Side) (bytes near far : List ℕ) (m n : ℕ) → m ≡ n → IsCut side bytes m near far → IsCut side bytes n near far
cut-same side bytes near far m n e cut = subst (λ (k : ℕ). IsCut side bytes k near far) e cut

-- ---- as many nodes as the shape has
count-map : (cs : Forest Label) → node_count (map_forest form_of cs) ≡ node_count cs
count-map empty = refl
count-map (grow l cs rest) = omega (arith, count-map cs, count-map rest)

pub nodes-shape : (e : Node) → shapes.nodes_in (shape_of e) ≡ node_count e.1 + 1
unfolding shape_of
nodes-shape e = omega (arith, count-map e.1)
