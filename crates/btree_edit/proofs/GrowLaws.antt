-- A tree opened at its outermost edge, and what bytes beside it make.
use Rattle.std.proofs.Common.{ℕ, zero, suc, ◌≡◌, ◌+◌, ◌-◌, ◌*◌, ◌<◌, ◌≤◌, min, List, [], ◌∷◌, ◌++◌, length, sum_by, map, refl, sym, ap, subst, ◌∙◌, append-nil, arith}
use Rattle.std.specs.List.{All, flat_map}
use Rattle.std.proofs.lemmas.List.Sums.{sum_by-append}
use Rattle.std.proofs.lemmas.List.Elements.{All-append, All-cons, All-nil}
use Rattle.std.proofs.Math.Nat.{suc-mul}
use mathlib.Core.Logic.{dite}
use native.Mathlib.Decide.{ℕ_discrete}
use Rattle.node_forest.specs.declared.side.Side.{Side}
use Rattle.node_forest.specs.declared.side.Side.TheVariants.{Front, Back}
use Rattle.node_forest.specs.Forest.{children}
use Rattle.node_forest.specs.Label.{Node}
use Rattle.node_edges.specs.Body.{IsBranchOf}
use Rattle.node_edges.specs.Text.{text}
use Rattle.node_edges.specs.Trees.{shape_of, IsTreeAt}
use Rattle.node_edges.proofs.EdgeLaws.{length-shape, shape-branch}
use Rattle.node_edges.proofs.TreeLaws.{edges-trees, text-above, branch-tree, text-branch}
use Rattle.node_edges.proofs.TextLaws.{length-text}
use Rattle.node_edges.proofs.WayLaws.{nodes-edges}
use Rattle.pool_rule.specs.Trades.{IsWithin, itself, below}
use Rattle.pool_rule.specs.Views.{View}
use Rattle.tree_shapes.specs.Flats.{piece_count, flats, with_bytes}
use Rattle.tree_shapes.specs.Growth.{placed, beside, wrapped, with_all}
use Rattle.tree_shapes.specs.Nodes as shapes
use Rattle.tree_shapes.specs.Pieces.{IsParted}
use Rattle.tree_shapes.specs.Room.{most_under, room_at, filled, laid, room_outside, IsLift, IsRooted}
use Rattle.tree_shapes.specs.Shape.{Shape, level, branch_over, IsNode, IsTree}
use Rattle.tree_shapes.proofs.FlatLaws.{flats-leaves, flats-nodes, length-flats, count-none, count-some, flats-none}
use Rattle.tree_shapes.proofs.GrowthLaws.{node-some, IsNode-wrapped, All-placed}
use Rattle.tree_shapes.proofs.NodeLaws.{filled-few, nodes-lifted}
use Rattle.tree_shapes.proofs.RoomLaws.{fills, filled-below, filled-append, laid-placed, room-outside_placed, lifted-over, lifted-room, with_all-rooted, with_all-lifted, with_all-level, with_all-high}
use Rattle.btree_node.specs.Made.{nodes_in, nodes_of_all, IsMadeFrom}
use Rattle.btree_node.specs.Opening.{last_of, others_in, IsOutermost}
use Rattle.pool_rule.proofs.Trades.{trade}
use Rattle.btree_node.proofs.GainLaws.{gained-same}
use Rattle.btree_node.proofs.ListLaws.{map-placed}
use Rattle.btree_node.proofs.OpenLaws.{shape-outermost, room-none_at, siblings-children, last-child, others-is}
use Rattle.btree_edit.specs.Steps.{IsGrownFrom}
use Rattle.btree_edit.specs.Trees.{lifted_room, kept, pieces_under, kept_beside, IsCut, IsTreeOf, IsLaidOver, IsLevelFor}
use Rattle.btree_edit.proofs.PackLaws.{flats-parted, used-up, beside-step, beside-none, text-placed, length-beside, lengths-joined, nodes-shape}

module _ (side : Side) where
  -- what is filled under the outermost edge, and what comes beside it
  filled-flats : (l a n : ℕ) (ss : List Shape) (c : Shape) → IsNode l c → IsParted side n (room_at side l c) a
      → filled side (suc l) (branch_over l (placed side ss c)) (flats side n) ≡ laid side l (placed side ss (filled side l c (flats side a))) (flats side (n - a))
  filled-flats l a n ss c node p =
      let m = branch_over l (placed side ss c) in
      ap (filled side (suc l) m) (flats-parted side n (room_at side l c) a p)
      ∙ (filled-append side (suc l) m (flats side a) (flats side (n - a))
      ∙ (ap (λ (s : Shape). filled side (suc l) s (flats side (n - a))) (filled-below side l ss c (flats side a) node (flats-nodes side a) (omega (arith, length-flats side a, p.few)))
      ∙ sym (laid-placed side l ss (filled side l c (flats side a)) (flats side (n - a)))))

  pub full-child : (l n a : ℕ) (c : Shape) (old near : List ℕ) (made : Node) → IsNode l c → IsParted side n (room_at side l c) a → IsTreeOf l (filled side l c (flats side a)) (beside side old near) made → 0 < n - a → room_at side l (shape_of made) ≡ 0
  full-child l n a c old near made node p t some =
      let f = fills side l c (flats side a) node (flats-nodes side a) (omega (arith, length-flats side a, p.few)) in
      ap (room_at side l) t.shape ∙ omega (arith, f.room, length-flats side a, used-up side n (room_at side l c) a p some)

  -- so many pieces come beside the outermost edge
  pub fits-behind : (l n r s k a : ℕ) → piece_count n ≤ s → s ≡ r + k * most_under l → IsParted side n r a → piece_count (n - a) ≤ k * most_under l
  fits-behind l n r s k a fits is p = dite (ℕ_discrete (n - a) 0)
      (λ z. omega (arith, count-none (n - a) z))
      (λ nz. omega (arith, p.count, used-up side n r a p (omega (arith, nz)), fits, is))

  -- ---- nodes
  pub length-made : (b h : ℕ) (e made : Node) (s : Shape) (bytes : List ℕ) → IsTreeAt b e → IsTreeOf h s (beside side (text e) bytes) made → made.0.length ≡ e.0.length + length bytes
  length-made b h e made s bytes tree t =
      omega (arith, length-text h made t.tree, length-text b e tree, ap (λ (bs : List ℕ). length bs) t.text, length-beside side (text e) bytes)

  sum-edge : (f : Node → ℕ) (es : List Node) (e : Node) → sum_by f (placed side es e) ≡ sum_by f es + f e
  sum-edge f es e = go side
    where
      go : (s : Side) → sum_by f (placed s es e) ≡ sum_by f es + f e
      go Front = omega (arith, sum_by-append f (e ∷ []) es)
      go Back = omega (arith, sum_by-append f es (e ∷ []))

  pub lengths-outermost : (l : ℕ) (e : Node) (siblings : List Node) (last : Node) → IsTreeAt (suc l) e → IsOutermost side l e siblings last → e.0.length ≡ sum_by (λ (m : Node). m.0.length) siblings + last.0.length
  lengths-outermost l e siblings last tree o =
      omega (
        arith,
        length-text (suc l) e tree,
        ap (λ (bs : List ℕ). length bs) (text-above l e tree.at),
        lengths-joined l (children e) (edges-trees l e tree),
        ap (sum_by (λ (m : Node). m.0.length)) o.edges,
        sum-edge (λ (m : Node). m.0.length) siblings last,
      )

  -- the outermost edge with bytes beside it, and trees beside that
  pub grown-outermost : (l : ℕ) (e last made new : Node) (siblings : List Node) (bytes near far : List ℕ) → IsTreeAt (suc l) e → IsOutermost side l e siblings last → IsCut side bytes (room_at side l (shape_of last)) near far
      → IsTreeOf l (filled side l (shape_of last) (flats side (length near))) (beside side (text last) near) made → IsLaidOver side l (placed side siblings made) far new → IsTreeOf (suc l) (filled side (suc l) (shape_of e) (flats side (length bytes))) (beside side (text e) bytes) new
  grown-outermost l e last made new siblings bytes near far tree o cut t laid_over = record {
    tree = laid_over.tree;
    shape = laid_over.shape
        ∙ ((λ i. laid side l (shapes i) (flats side (cut.far_long i)))
        ∙ sym (ap (λ (s : Shape). filled side (suc l) s (flats side (length bytes))) (shape-outermost side l e siblings last tree o)
        ∙ filled-flats l (length near) (length bytes) (map shape_of siblings) (shape_of last) o.last_tree.node cut.parted));
    text = laid_over.text
        ∙ (ap (λ (bs : List ℕ). beside side bs far) (text-placed side siblings made ∙ (ap (beside side (flat_map text siblings)) t.text ∙ sym (beside-step side (flat_map text siblings) (text last) near)))
        ∙ (beside-step side (beside side (flat_map text siblings) (text last)) near far
        ∙ (λ i. beside side (sym whole i) (sym cut.whole i))));
  }
    where
      shapes : map shape_of (placed side siblings made) ≡ placed side (map shape_of siblings) (filled side l (shape_of last) (flats side (length near)))
      shapes = map-placed shape_of side siblings made ∙ ap (λ (s : Shape). placed side (map shape_of siblings) s) t.shape

      whole : text e ≡ beside side (flat_map text siblings) (text last)
      whole = text-above l e tree.at ∙ (ap (flat_map text) o.edges ∙ text-placed side siblings last)

  pub laid-branch : (l : ℕ) (before es : List Node) (bytes : List ℕ) (e : Node) → IsBranchOf l es e → All (IsTreeAt l) es → 0 < length es → length es ≤ 6 → laid side l (map shape_of before) (flats side (length bytes)) ≡ branch_over l (map shape_of es) → flat_map text es ≡ beside side (flat_map text before) bytes → IsLaidOver side l before bytes e
  laid-branch l before es bytes e branch all some few shapes joined = record {
    tree = branch-tree e l es branch some few all;
    shape = shape-branch e l es branch ∙ sym shapes;
    text = text-branch e l es branch ∙ joined;
  }

  -- nothing beside it
  pub same-tree : (l : ℕ) (e again : Node) (bytes : List ℕ) → again ≡ e → length bytes ≡ 0 → IsTreeAt l e → IsTreeOf l (filled side l (shape_of e) (flats side (length bytes))) (beside side (text e) bytes) again
  same-tree l e again bytes is none tree = record {
    tree = subst (IsTreeAt l) (sym is) tree;
    shape = ap shape_of is ∙ sym (ap (filled side l (shape_of e)) (flats-none side (length bytes) none));
    text = ap text is ∙ sym (beside-none side (text e) bytes none);
  }

  pub some-level : (l n : ℕ) (s : Shape) → 0 < n → piece_count n ≤ room_at side l s → 0 < l
  some-level zero n s some fits = absurd (omega (arith, room-none_at side s, fits, count-some n some))
  some-level (suc l) n s some fits = omega arith

  -- edges beside whose outermost one there is no room
  pub full-behind : (l : ℕ) (es siblings : List Node) (child : Node) → es ≡ placed side siblings child → room_at side l (shape_of child) ≡ 0 → room_outside side l (map shape_of es) ≡ 0
  full-behind l es siblings child is full =
      ap (λ (zs : List Node). room_outside side l (map shape_of zs)) is
      ∙ (ap (room_outside side l) (map-placed shape_of side siblings child) ∙ (room-outside_placed side l (map shape_of siblings) (shape_of child) ∙ full))

  pub lengths-behind : (l : ℕ) (es siblings : List Node) (child : Node) (bytes : List ℕ) → All (IsTreeAt l) es → All (IsTreeAt l) siblings → IsTreeAt l child → flat_map text es ≡ beside side (flat_map text (placed side siblings child)) bytes
      → sum_by (λ (m : Node). m.0.length) es ≡ sum_by (λ (m : Node). m.0.length) siblings + child.0.length + length bytes
  lengths-behind l es siblings child bytes all trees tree is =
      let before = placed side siblings child in
      omega (
        arith,
        lengths-joined l es all,
        ap (λ (bs : List ℕ). length bs) is,
        length-beside side (flat_map text before) bytes,
        lengths-joined l before (All-placed side (IsTreeAt l) siblings child trees tree),
        sum-edge (λ (m : Node). m.0.length) siblings child,
      )

  pub trees-behind : (l : ℕ) (es siblings : List Node) (child : Node) → es ≡ placed side siblings child → All (IsTreeAt l) siblings → IsTreeAt l child → All (IsTreeAt l) es
  trees-behind l es siblings child is trees tree = subst (All (IsTreeAt l)) (sym is) (All-placed side (IsTreeAt l) siblings child trees tree)

  pub some-behind : (l : ℕ) (es siblings : List Node) (child : Node) (bytes : List ℕ) → All (IsTreeAt l) es → All (IsTreeAt l) siblings → IsTreeAt l child → flat_map text es ≡ beside side (flat_map text (placed side siblings child)) bytes → 0 < length es
  some-behind l [] siblings child bytes all trees tree is =
      let some = node-some l (shape_of child) tree.node in
      absurd (omega (arith, lengths-behind l [] siblings child bytes all trees tree is, some, length-shape child))
  some-behind l (e ∷ es) siblings child bytes all trees tree is = omega arith

  -- ---- under new roots
  room-raised : (s : Shape) (b h : ℕ) → level s ≡ b → b ≤ h → lifted_room side s b (suc h) ≡ lifted_room side s b h + 5 * most_under h
  room-raised s b h at le =
      let j : ℕ = h - b in
      let down : level s + j ≡ h = omega (arith, at, le) in
      let up : level s + suc j ≡ suc h = omega (arith, at, le) in
      let more : suc h - b ≡ suc j = omega (arith, le) in
      ap (λ (i : ℕ). room_at side (suc h) (wrapped i s)) more
      ∙ (ap (λ (l : ℕ). room_at side l (wrapped (suc j) s)) (sym up)
      ∙ (lifted-room side j s ∙ (λ i. room_at side (down i) (wrapped j s) + 5 * most_under (down i))))

  pub room-lifted_more : (s : Shape) (b l h : ℕ) → level s ≡ b → b ≤ h → l ≡ suc h → lifted_room side s b l ≡ lifted_room side s b h + 5 * most_under h
  room-lifted_more s b l h at le up = ap (lifted_room side s b) up ∙ room-raised s b h at le

  pub room-lifted_none : (s : Shape) (b l : ℕ) → l ≡ b → lifted_room side s b l ≡ room_at side b s
  unfolding wrapped
  room-lifted_none s b l e = let z : l - b ≡ 0 = omega (arith, e) in (λ i. room_at side (e i) (wrapped (z i) s))

pub wrapped-none : (s : Shape) (b l : ℕ) → l ≡ b → wrapped (l - b) s ≡ s
unfolding wrapped
wrapped-none s b l e = let z : l - b ≡ 0 = omega (arith, e) in ap (λ (j : ℕ). wrapped j s) z

pub lifted-node : (s : Shape) (b h : ℕ) → level s ≡ b → b ≤ h → IsNode b s → IsNode h (wrapped (h - b) s)
lifted-node s b h at le node =
    let down : level s + (h - b) ≡ h = omega (arith, at, le) in
    subst (λ (l : ℕ). IsNode l (wrapped (h - b) s)) down (IsNode-wrapped (h - b) s (subst (λ (l : ℕ). IsNode l s) (sym at) node))

module _ (side : Side) where
  wrapped-raised : (s : Shape) (b h : ℕ) → level s ≡ b → b ≤ h → wrapped (suc h - b) s ≡ branch_over h (placed side [] (wrapped (h - b) s))
  wrapped-raised s b h at le =
      let j : ℕ = h - b in
      let down : level s + j ≡ h = omega (arith, at, le) in
      let more : suc h - b ≡ suc j = omega (arith, le) in
      ap (λ (i : ℕ). wrapped i s) more ∙ (lifted-over side j s ∙ ap (λ (l : ℕ). branch_over l (placed side [] (wrapped j s))) down)

  pub grown-raised : (b h : ℕ) (e made new : Node) (bytes near far : List ℕ) → IsTreeAt b e → b ≤ h → IsCut side bytes (lifted_room side (shape_of e) b h) near far
      → IsTreeOf h (filled side h (wrapped (h - b) (shape_of e)) (flats side (length near))) (beside side (text e) near) made → IsLaidOver side h (placed side [] made) far new → IsTreeOf (suc h) (filled side (suc h) (wrapped (suc h - b) (shape_of e)) (flats side (length bytes))) (beside side (text e) bytes) new
  grown-raised b h e made new bytes near far tree le cut t laid_over = record {
    tree = laid_over.tree;
    shape = laid_over.shape
        ∙ ((λ i. laid side h (shapes i) (flats side (cut.far_long i)))
        ∙ sym (ap (λ (s : Shape). filled side (suc h) s (flats side (length bytes))) (wrapped-raised (shape_of e) b h tree.at le)
        ∙ filled-flats side h (length near) (length bytes) [] (wrapped (h - b) (shape_of e)) (lifted-node (shape_of e) b h tree.at le tree.node) cut.parted));
    text = laid_over.text
        ∙ (ap (λ (bs : List ℕ). beside side bs far) (text-placed side [] made ∙ (alone side (text made) ∙ t.text))
        ∙ (beside-step side (text e) near far ∙ ap (beside side (text e)) (sym cut.whole)));
  }
    where
      shapes : map shape_of (placed side [] made) ≡ placed side [] (filled side h (wrapped (h - b) (shape_of e)) (flats side (length near)))
      shapes = map-placed shape_of side [] made ∙ ap (λ (s : Shape). placed side [] s) t.shape

      alone : (s : Side) (bs : List ℕ) → beside s [] bs ≡ bs
      alone Front bs = append-nil bs
      alone Back bs = refl

  pub full-lifted : (b h n a : ℕ) (e made : Node) (near : List ℕ) → IsTreeAt b e → b ≤ h → IsParted side n (lifted_room side (shape_of e) b h) a → IsTreeOf h (filled side h (wrapped (h - b) (shape_of e)) (flats side a)) (beside side (text e) near) made → 0 < n - a → room_at side h (shape_of made) ≡ 0
  full-lifted b h n a e made near tree le p t some = full-child side h n a (wrapped (h - b) (shape_of e)) (text e) near made (lifted-node (shape_of e) b h tree.at le tree.node) p t some

  pub fits-lifted : (b l h n a : ℕ) (e : Node) → IsTreeAt b e → b ≤ h → l ≡ suc h → piece_count n ≤ lifted_room side (shape_of e) b l → IsParted side n (lifted_room side (shape_of e) b h) a → piece_count (n - a) ≤ 5 * most_under h
  fits-lifted b l h n a e tree le up fits p = fits-behind side h n (lifted_room side (shape_of e) b h) (lifted_room side (shape_of e) b l) 5 a fits (room-lifted_more side (shape_of e) b l h tree.at le up) p

  -- ---- the whole
  pub level-lift : (s : Shape) (b n l : ℕ) → level s ≡ b → IsLevelFor side s b (piece_count n) l → IsLift side s (length (flats side n)) (l - b)
  level-lift s b n l at is =
      let same : level s + (l - b) ≡ l = omega (arith, at, is.above) in
      record {
        room = omega (arith, length-flats side n, is.fits, ap (λ (k : ℕ). room_at side k (wrapped (l - b) s)) same);
        least = λ i e.
            let k : ℕ = b + i in
            let up : l ≡ suc k = omega (arith, e, is.above) in
            let down : k - b ≡ i = omega arith in
            let here : level s + i ≡ k = omega (arith, at) in
            let same_room : room_at side (level s + i) (wrapped i s) ≡ room_at side k (wrapped (k - b) s) = (λ j. room_at side (here j) (wrapped (sym down j) s)) in
            omega (arith, length-flats side n, is.least k up (omega arith), same_room);
      }

  pub grown-shape : (b l : ℕ) (e new : Node) (bytes : List ℕ) → IsTreeAt b e → IsLevelFor side (shape_of e) b (piece_count (length bytes)) l → IsTreeOf l (filled side l (wrapped (l - b) (shape_of e)) (flats side (length bytes))) (beside side (text e) bytes) new → shape_of new ≡ with_bytes side (shape_of e) (length bytes)
  grown-shape b l e new bytes tree is t =
      let same : level (shape_of e) + (l - b) ≡ l = omega (arith, tree.at, is.above) in
      t.shape ∙ (ap (λ (k : ℕ). filled side k (wrapped (l - b) (shape_of e)) (flats side (length bytes))) (sym same)
      ∙ sym (with_all-lifted side (l - b) (shape_of e) (flats side (length bytes)) (subst (λ (k : ℕ). IsNode k (shape_of e)) (sym tree.at) tree.node) (flats-nodes side (length bytes)) (level-lift (shape_of e) b (length bytes) l tree.at is)))

  pub grown-tree : (b l : ℕ) (e new : Node) (bytes : List ℕ) → IsTree (shape_of e) → IsTreeAt b e → IsLevelFor side (shape_of e) b (piece_count (length bytes)) l → IsTreeOf l (filled side l (wrapped (l - b) (shape_of e)) (flats side (length bytes))) (beside side (text e) bytes) new → IsTree (shape_of new)
  grown-tree b l e new bytes root tree is t =
      let shape = grown-shape b l e new bytes tree is t in
      let whole = with_all-rooted side (shape_of e) (flats side (length bytes)) (record { node = root.node; wide = root.wide }) (flats-nodes side (length bytes)) in
      let new_whole = subst IsRooted (sym shape) whole in
      record { node = new_whole.node; low = omega (arith, t.tree.at, is.low); wide = new_whole.wide }

  pub level-with_bytes : (b l n : ℕ) (e : Node) → IsTreeAt b e → IsLevelFor side (shape_of e) b (piece_count n) l → level (with_bytes side (shape_of e) n) ≡ l
  level-with_bytes b l n e tree is =
      omega (arith, with_all-level side (l - b) (shape_of e) (flats side n) (subst (λ (k : ℕ). IsNode k (shape_of e)) (sym tree.at) tree.node) (flats-nodes side n) (level-lift (shape_of e) b n l tree.at is), tree.at, is.above)

  pub too-high : (b n : ℕ) (e : Node) → IsTreeAt b e → b ≤ 12 → lifted_room side (shape_of e) b 12 < piece_count n → 12 < level (with_bytes side (shape_of e) n)
  too-high b n e tree low more =
      let same : level (shape_of e) + (12 - b) ≡ 12 = omega (arith, tree.at, low) in
      omega (arith, with_all-high side (12 - b) (shape_of e) (flats side n) (subst (λ (k : ℕ). IsNode k (shape_of e)) (sym tree.at) tree.node) (flats-nodes side n) (omega (arith, more, length-flats side n, ap (λ (k : ℕ). room_at side k (wrapped (12 - b) (shape_of e))) same)), same)

-- ---- the trees that are kept
kept-none : (side : Side) (l : ℕ) (e : Node) → kept side l e 0 ≡ e ∷ []
unfolding kept
kept-none side zero e = refl
kept-none side (suc l) e = refl

kept-some : (side : Side) (l n : ℕ) (e : Node) → kept side (suc l) e (suc n) ≡ others_in side (children e) ++ kept side l (last_of side e) (min (suc n) (room_at side l (shape_of (last_of side e))))
unfolding kept
kept-some side l n e = refl

times-le : (k a b : ℕ) → a ≤ b → k * a ≤ k * b
times-le zero a b h = omega arith
times-le (suc k) a b h = omega (arith, suc-mul k a, suc-mul k b, times-le k a b h)

module _ (side : Side) where
  pub within-outermost : (l : ℕ) (e : Node) (siblings : List Node) (last : Node) (shared : List Node) → IsOutermost side l e siblings last → All (λ (s : Node). IsWithin s last) shared → All (λ (s : Node). IsWithin s e) (siblings ++ shared)
  within-outermost l e siblings last shared o all =
      All-append (λ (s : Node). IsWithin s e) siblings shared
      (λ k d lt. below (siblings-children side l e siblings last o k d lt) itself)
      (λ k d lt. below (last-child side l e siblings last o) (all k d lt))

  nodes-outermost : (l : ℕ) (e : Node) (siblings : List Node) (last : Node) → IsOutermost side l e siblings last → nodes_in e ≡ nodes_of_all siblings + nodes_in last + 1
  nodes-outermost l e siblings last o = omega (arith, nodes-edges e, ap nodes_of_all o.edges, sum-edge side nodes_in siblings last)

  pub kept-outermost : (l : ℕ) (e : Node) (siblings : List Node) (last : Node) (shared : List Node) → IsOutermost side l e siblings last → nodes_in last ≤ nodes_of_all shared + l → nodes_in e ≤ nodes_of_all (siblings ++ shared) + suc l
  kept-outermost l e siblings last shared o most = omega (arith, nodes-outermost l e siblings last o, most, sum_by-append nodes_in siblings shared)

  near-count : (n r a : ℕ) → IsParted side n r a → piece_count a ≡ min (piece_count n) r
  near-count n r a p = dite (ℕ_discrete (n - a) 0)
      (λ z. omega (arith, p.count, count-none (n - a) z, p.few))
      (λ nz. omega (arith, p.count, used-up side n r a p (omega (arith, nz))))

  pub kept-same : (l : ℕ) (e : Node) (bytes : List ℕ) → length bytes ≡ 0 → kept side l e (piece_count (length bytes)) ≡ e ∷ []
  kept-same l e bytes none = ap (λ (k : ℕ). kept side l e k) (count-none (length bytes) none) ∙ kept-none side l e

  pub kept-more : (l n a : ℕ) (e : Node) (siblings : List Node) (last : Node) → IsOutermost side l e siblings last → 0 < n → IsParted side n (room_at side l (shape_of last)) a → kept side (suc l) e (piece_count n) ≡ siblings ++ kept side l last (piece_count a)
  kept-more l n a e siblings last o some p =
      let k : ℕ = piece_count n - 1 in
      let up : piece_count n ≡ suc k = omega (arith, count-some n some) in
      let both = others-is side (children e) siblings last e o.edges in
      let count : min (suc k) (room_at side l (shape_of last)) ≡ piece_count a = omega (arith, near-count n (room_at side l (shape_of last)) a p, up) in
      ap (λ (j : ℕ). kept side (suc l) e j) up ∙ (kept-some side l k e
      ∙ ((λ i. both.0 i ++ kept side l (both.1 i) (min (suc k) (room_at side l (shape_of (both.1 i))))) ∙ ap (λ (j : ℕ). siblings ++ kept side l last j) count))

  pub under-fits : (l n : ℕ) (e : Node) → n ≤ room_at side l (shape_of e) → n ≡ pieces_under side l e n
  under-fits l n e fits = omega (arith, fits)

  rooms-lifted : (s : Shape) (b k : ℕ) → level s ≡ b → lifted_room side s b b ≤ lifted_room side s b (k + b)
  rooms-lifted s b zero at = let e : b ≡ 0 + b = omega arith in omega (arith, ap (lifted_room side s b) e)
  rooms-lifted s b (suc k) at = omega (arith, rooms-lifted s b k at, room-lifted_more side s b (suc k + b) (k + b) at (omega arith) (omega arith))

  pub under-less : (b h n a : ℕ) (e : Node) → IsTreeAt b e → b ≤ h → IsParted side n (lifted_room side (shape_of e) b h) a → pieces_under side b e (piece_count n) ≡ pieces_under side b e (piece_count a)
  under-less b h n a e tree le p =
      let up : (h - b) + b ≡ h = omega (arith, le) in
      omega (arith, near-count n (lifted_room side (shape_of e) b h) a p, rooms-lifted (shape_of e) b (h - b) tree.at, ap (lifted_room side (shape_of e) b) up, room-lifted_none side (shape_of e) b b refl)

  -- bytes beside a tree take at most 25 numbers for each piece
  pub few-taken : (b l n : ℕ) (t e : Node) (trees : List Node) (v w : View) → IsTreeAt b t → b ≤ l → l ≤ 12 → 0 < n → piece_count n ≤ lifted_room side (shape_of t) b l → shape_of e ≡ filled side l (wrapped (l - b) (shape_of t)) (flats side n) → IsGrownFrom b t trees v w e → length w.taken ≤ length v.taken + 25 * piece_count n
  few-taken b l n t e trees v w tree le low some fits shape a =
      let k : ℕ = piece_count n in
      let long = length-flats side n in
      let many = count-some n some in
      let node = lifted-node (shape_of t) b l tree.at le tree.node in
      let few = filled-few side l (wrapped (l - b) (shape_of t)) (flats side n) node (flats-leaves side n) (omega (arith, long, fits)) in
      let up : length (flats side n) * (l + 1) ≤ k * 13 = omega (arith, times-le k (l + 1) 13 (omega (arith, low)), ap (λ (j : ℕ). j * (l + 1)) long) in
      omega (arith, a.made.took, a.most, nodes-shape e, nodes-shape t, ap shapes.nodes_in shape, few, up, nodes-lifted (l - b) (shape_of t), many, low, le)

-- ---- nothing added
pub with-nothing : (side : Side) (s : Shape) (n : ℕ) → n ≡ 0 → with_bytes side s n ≡ s
with-nothing side s n none = ap (λ (xs : List Shape). with_all side s xs) (flats-none side n none)

kept-nothing : (side : Side) (e : Node) (n : ℕ) → n ≡ 0 → kept_beside side e n ≡ e ∷ []
kept-nothing side e n none =
    let l : ℕ = level (shape_of e) in
    let few : pieces_under side l e (piece_count n) ≡ 0 = omega (arith, count-none n none) in
    ap (λ (k : ℕ). kept side l e k) few ∙ kept-none side l e

pub made-nothing : (side : Side) (e : Node) (v : View) (n : ℕ) → n ≡ 0 → IsMadeFrom (e ∷ []) (kept_beside side e n) v v e
made-nothing side e v n none =
    subst (λ (ks : List Node). IsMadeFrom (e ∷ []) ks v v e) (sym (kept-nothing side e n none))
    (record { traded = trade v.holds (e ∷ []) (e ∷ []) v.holds (λ f. omega arith); stand = All-cons (λ (s : Node). IsWithin s e) e [] itself (All-nil _); took = omega arith; gained = gained-same v v refl })
