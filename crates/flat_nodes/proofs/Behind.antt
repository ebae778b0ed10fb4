-- The last flat of a tree, filled in place: where that is possible, and what the tree is then.
use Rattle.std.proofs.Common.{ℕ, zero, suc, ◌≡◌, ◌+◌, ◌-◌, ◌^◌, ◌<◌, ◌≤◌, List, [], ◌∷◌, ◌++◌, length, map, get_or, set, sum_by, refl, sym, ap, subst, ◌∙◌, append-nil, append_assoc, arith, length-append}
use Rattle.std.specs.Global.{Vec}
use Rattle.std.specs.List.{All, flat_map}
use Rattle.std.proofs.lemmas.List.{length-map, map-set}
use Rattle.std.proofs.lemmas.List.Sums.{sum_by-set, get_or-le-sum_by}
use Rattle.std.proofs.lemmas.List.Elements.{All-set}
use Rattle.std.proofs.Math.ListN.{get_or-map}
use Rattle.node_forest.specs.declared.kind.Kind.{Kind}
use Rattle.node_forest.specs.declared.kind.Kind.TheVariants.{Flat, External, Part, Sum, Branch}
use Rattle.node_forest.specs.Forest.{forest, children, map_forest}
use Rattle.node_forest.specs.Label.{Node, flat_room}
use Rattle.node_forest.specs.Paths.{child_of, at_depth, Leads}
use Rattle.node_forest.specs.Changes.{Site, site, Edit, resize, total, with_edges, raised, edit, FitsAt}
use Rattle.node_forest.proofs.Maps.{trees-forest, forest-map}
use Rattle.node_edges.specs.declared.change.Change.TheVariants.{Fill}
use Rattle.node_edges.specs.Changes.{edits, FitEach}
use Rattle.node_edges.specs.Text.{text, text_step, joined_text}
use Rattle.node_edges.specs.Trees.{form_of, more_of, shape_of, IsFilledBy, AreFilled, IsFilled, IsTreeAt}
use Rattle.node_edges.proofs.ChangedLaws.{text-bytes, shape-bytes}
use Rattle.node_edges.proofs.EdgeLaws.{children-shape, length-shape, sum-lengths}
use Rattle.node_edges.proofs.TreeLaws.{All-tail, filled-children, edges-some, edges-trees, text-above}
use Rattle.tree_shapes.specs.Filling.{room_step, last_room, last_filled}
use Rattle.tree_shapes.specs.Growth.{outermost}
use Rattle.tree_shapes.specs.Shape.{Shape, level_step, level, length_of, branch_over, IsTree}
use Rattle.node_forest.specs.declared.side.Side.TheVariants.{Back}
use Rattle.tree_shapes.proofs.FillLaws.{fills-up, filled-rooted}
use Rattle.tree_shapes.proofs.ShapeLaws.{level-node}
use Rattle.flat_nodes.specs.Behind.{last_place, places_behind, filled_at, path_behind, room_behind, filled_behind, shape_behind}

-- ---- kinds
branch-kind : (k : Kind) (m l : ℕ) → level_step k (more_of k m) ≡ suc l → (k ≡ Branch) × (more_of k m ≡ l)
branch-kind Flat m l at = absurd (omega (arith, at))
branch-kind External m l at = absurd (omega (arith, at))
branch-kind Part m l at = absurd (omega (arith, at))
branch-kind Sum m l at = absurd (omega (arith, at))
branch-kind Branch m l at = (refl, omega (arith, at))

flat-kind : (k : Kind) (m : ℕ) → 0 < room_step k m → (k ≡ Flat) × (room_step k m ≡ m)
flat-kind Flat m some = (refl, refl)
flat-kind External m some = absurd (omega (arith, some))
flat-kind Part m some = absurd (omega (arith, some))
flat-kind Sum m some = absurd (omega (arith, some))
flat-kind Branch m some = absurd (omega (arith, some))

flat-more : (k : Kind) (m : ℕ) → k ≡ Flat → more_of k m ≡ m
flat-more Flat m is = refl
flat-more External m is = absurd (cc)
flat-more Part m is = refl
flat-more Sum m is = refl
flat-more Branch m is = refl

at-branch : (l : ℕ) (t : Node) → IsTreeAt (suc l) t → (t.0.kind ≡ Branch) × (more_of t.0.kind t.0.more ≡ l)
unfolding shape_of level
at-branch l t tree = branch-kind t.0.kind t.0.more l tree.at

-- ---- the last edge
pub last-low : (l : ℕ) (t : Node) → IsTreeAt (suc l) t → last_place t < length (children t)
last-low l t tree = omega (arith, edges-some l t tree)

pub last-tree : (l : ℕ) (t : Node) → IsTreeAt (suc l) t → IsTreeAt l (child_of t (last_place t))
last-tree l t tree = edges-trees l t tree (last_place t) t (last-low l t tree)

last-shape : (t : Node) → outermost Back (shape_of t) ≡ shape_of (child_of t (last_place t))
last-shape t =
    let es = children t in
    (λ i. get_or (children-shape t i) (length (children-shape t i) - 1) (shape_of t))
    ∙ (ap (λ (n : ℕ). get_or (map shape_of es) (n - 1) (shape_of t)) (length-map es shape_of) ∙ get_or-map shape_of es (last_place t) t)

-- the edges' lengths are together the node's
total-edges : (l : ℕ) (t : Node) → IsTreeAt (suc l) t → total (children t) ≡ t.0.length
total-edges l t tree =
    sym (sum-lengths (children t)) ∙ (ap (sum_by length_of) (sym (children-shape t)) ∙ (sym tree.node.long ∙ length-shape t))

pub length-places : (l : ℕ) (t : Node) → length (places_behind l t) ≡ l
length-places zero t = refl
length-places (suc l) t = ap (λ (n : ℕ). suc n) (length-places l (child_of t (last_place t)))

pub leads-behind : (l : ℕ) (t : Node) → IsTreeAt l t → Leads t (places_behind l t)
leads-behind zero t tree = tt
leads-behind (suc l) t tree = ((at-branch l t tree).0, last-low l t tree, leads-behind l (child_of t (last_place t)) (last-tree l t tree))

pub room-below : (l : ℕ) (t : Node) → last_room (suc l) (shape_of t) ≡ last_room l (shape_of (child_of t (last_place t)))
unfolding last_room
room-below l t = ap (last_room l) (last-shape t)

-- ---- the length
module _ (more : List ℕ) where
  pub filled-length : (l : ℕ) (t : Node) → IsTreeAt l t → (filled_at l t more).0.length ≡ t.0.length + length more
  filled-length zero t tree = refl
  filled-length (suc l) t tree =
      let p = last_place t in
      let c = child_of t p in
      omega (
        arith,
        sum_by-set (λ (e : Node). e.0.length) (children t) p (filled_at l c more) t (last-low l t tree),
        filled-length l c (last-tree l t tree),
        total-edges l t tree,
      )

-- ---- the edit
module _ (more : List ℕ) where
  abbrev filling : Node → Edit
  filling m = resize (m.0.length + length more) (m.0.bytes ++ more) (flat_room m.0 - length more)

  abbrev filling_in : ℕ → Node → Edit
  filling_in l t = filling (at_depth (length (places_behind l t)) t (places_behind l t))

  edited-at : (l : ℕ) (t : Node) (out : List Node) → edit (filling_in l t) (length (places_behind l t)) t (places_behind l t) out ≡ site (filled_at l t more) (places_behind l t) out
  edited-at zero t out = refl
  edited-at (suc l) t out = ap (raised t (last_place t)) (edited-at l (child_of t (last_place t)) out)

  at-flat : (t : Node) → 0 < last_room 0 (shape_of t) → (t.0.kind ≡ Flat) × (last_room 0 (shape_of t) ≡ flat_room t.0)
  unfolding shape_of last_room
  at-flat t some =
      let is = flat-kind t.0.kind (more_of t.0.kind t.0.more) some in
      (is.0, is.1 ∙ flat-more t.0.kind t.0.more is.0)

  fits-at : (l : ℕ) (t : Node) → IsTreeAt l t → 0 < length more → length more ≤ last_room l (shape_of t) → t.0.length + length more ≤ 2147483647
      → FitsAt (filling_in l t) (length (places_behind l t)) t (places_behind l t) × (length more ≤ flat_room (at_depth (length (places_behind l t)) t (places_behind l t)).0)
  fits-at zero t tree some fits short =
      let is = at-flat t (omega (arith, some, fits)) in
      let low : t.0.length + length more < 2 ^ 63 = omega arith in (
        (record { flat = is.0; some = omega (arith, some); short = low; ends = refl }, tt),
        omega (arith, fits, is.1),
      )
  fits-at (suc l) t tree some fits short =
      let p = last_place t in
      let c = child_of t p in
      let low = last-low l t tree in
      let sums = sum_by-set (λ (e : Node). e.0.length) (children t) p (filled_at l c more) t low in
      let all = total-edges l t tree in
      let grown = filled-length more l c (last-tree l t tree) in
      let part = get_or-le-sum_by (λ (e : Node). e.0.length) (children t) p t low in
      let whole : total (set (children t) p (edit (filling_in l c) (length (places_behind l c)) c (places_behind l c) []).tree) ≡ total (set (children t) p (filled_at l c more)) =
      ap (λ (s : Site). total (set (children t) p s.tree)) (edited-at l c []) in
      let below = fits-at l c (last-tree l t tree) some (omega (arith, fits, room-below l t)) (omega (arith, short, all, part)) in
      let under : total (set (children t) p (edit (filling_in l c) (length (places_behind l c)) c (places_behind l c) []).tree) < 2 ^ 63 = omega (arith, whole, sums, all, grown, short) in
      (((at-branch l t tree).0, low, below.0, under), below.1)

-- ---- the one change of a whole tree

module _ (v : Vec ℕ) (more : List ℕ) (is : v.items ≡ more) (l d : ℕ) (t : Node) (path : List ℕ) (at : path ≡ places_behind l t) (deep : d ≡ length path) where
  pub edits-behind : edits ((d, Fill v) ∷ []) (site t path []) ≡ site (filled_at l t more) path []
  edits-behind =
      (λ i. edits ((deep i, Fill v) ∷ []) (site t path []))
      ∙ ((λ i. edits ((length (at i), Fill v) ∷ []) (site t (at i) []))
      ∙ (edited-at v.items l t [] ∙ (λ i. site (filled_at l t (is i)) (sym at i) [])))

  pub fits-behind : IsTreeAt l t → 0 < length more → length more ≤ last_room l (shape_of t) → t.0.length + length more ≤ 2147483647 → FitEach ((d, Fill v) ∷ []) (site t path [])
  fits-behind tree some fits short =
      let same : length v.items ≡ length more = ap (λ (bs : List ℕ). length bs) is in
      let f = fits-at v.items l t tree (omega (arith, some, same)) (omega (arith, fits, same)) (omega (arith, short, same)) in
      subst (λ (z : ℕ × List ℕ). FitEach ((z.0, Fill v) ∷ []) (site t z.1 [])) (λ i. (sym (deep ∙ ap (λ (ps : List ℕ). length ps) at) i, sym at i)) (f, tt)

-- ---- the shape
shape-edges : (h : ℕ) (t : Node) (es : List Node) → (t.0.kind ≡ Branch) × (more_of t.0.kind t.0.more ≡ h) → shape_of (with_edges es t) ≡ branch_over h (map shape_of es)
unfolding shape_of branch_over
shape-edges h t es is = λ i. (record { kind = is.0 i; length = sym (sum-lengths es) i; more = is.1 i }, forest-map form_of es i)

-- the rules' shape a level further up
filled-above : (l n : ℕ) (t : Node) → IsTreeAt (suc l) t → last_filled (suc l) (shape_of t) n ≡ branch_over l (set (map shape_of (children t)) (last_place t) (last_filled l (shape_of (child_of t (last_place t))) n))
unfolding last_filled
filled-above l n t tree =
    let es = children t in
    let h : level (shape_of t) - 1 ≡ l = omega (arith, tree.at) in
    (λ i. branch_over (h i) (set (children-shape t i) (length (children-shape t i) - 1) (last_filled l (last-shape t i) n)))
    ∙ ap (λ (k : ℕ). branch_over l (set (map shape_of es) (k - 1) (last_filled l (shape_of (child_of t (last_place t))) n))) (length-map es shape_of)

flat-filled : (t : Node) (bytes : List ℕ) → t.0.kind ≡ Flat → shape_of (filled_at 0 t bytes) ≡ last_filled 0 (shape_of t) (length bytes)
unfolding shape_of last_filled
flat-filled t bytes is =
    shape-bytes t (t.0.length + length bytes) (flat_room t.0 - length bytes) (t.0.bytes ++ bytes) is
    ∙ (λ i. (record { kind = sym is i; length = t.0.length + length bytes; more = more_of (sym is i) t.0.more - length bytes }, map_forest form_of t.1))

module _ (more : List ℕ) (some : 0 < length more) where
  pub shape-filled : (l : ℕ) (t : Node) → IsTreeAt l t → length more ≤ last_room l (shape_of t) → shape_of (filled_at l t more) ≡ last_filled l (shape_of t) (length more)
  shape-filled zero t tree fits = flat-filled t more (at-flat more t (omega (arith, some, fits))).0
  shape-filled (suc l) t tree fits =
      let p = last_place t in
      let c = child_of t p in
      shape-edges l t (set (children t) p (filled_at l c more)) (at-branch l t tree)
      ∙ (ap (branch_over l) (map-set shape_of (children t) p (filled_at l c more) ∙ ap (λ (s : Shape). set (map shape_of (children t)) p s) (shape-filled l c (last-tree l t tree) (omega (arith, fits, room-below l t))))
      ∙ sym (filled-above l (length more) t tree))

-- ---- the bytes
all-filled : (es : List Node) → All IsFilled es → AreFilled (forest es)
unfolding IsFilled
all-filled [] all = tt
all-filled (e ∷ es) all = let one = all 0 e (omega arith) in (one.0, one.1, all-filled es (All-tail IsFilled e es all))

filled-edges : (t : Node) (es : List Node) → t.0.kind ≡ Branch → All IsFilled es → IsFilled (with_edges es t)
unfolding IsFilled
filled-edges t es is all = (by_kind t.0.kind is, all-filled es all)
  where
    by_kind : (k : Kind) → k ≡ Branch → IsFilledBy k (with_edges es t).0
    by_kind Flat e = absurd (cc)
    by_kind External e = absurd (cc)
    by_kind Part e = tt
    by_kind Sum e = tt
    by_kind Branch e = tt

filled-flat : (t : Node) (bytes : List ℕ) → t.0.kind ≡ Flat → IsFilled t → IsFilled (filled_at 0 t bytes)
unfolding IsFilled
filled-flat t bytes is full = (by_kind t.0.kind is full.0, full.1)
  where
    by_kind : (k : Kind) → k ≡ Flat → IsFilledBy k t.0 → IsFilledBy k (filled_at 0 t bytes).0
    by_kind Flat e own = omega (arith, length-append t.0.bytes bytes, own)
    by_kind External e own = absurd (cc)
    by_kind Part e own = tt
    by_kind Sum e own = tt
    by_kind Branch e own = tt

text-flat : (t : Node) → t.0.kind ≡ Flat → text t ≡ t.0.bytes
unfolding text
text-flat t is = ap (λ (k : Kind). text_step k t.0 (joined_text t.1)) is

level-edges : (l : ℕ) (t : Node) (es : List Node) → IsTreeAt (suc l) t → level (shape_of (with_edges es t)) ≡ suc l
unfolding shape_of level
level-edges l t es tree = tree.at

-- the text of the last edge grows
last-texts : (es : List Node) (p : ℕ) (x d : Node) (more : List ℕ) → suc p ≡ length es → text x ≡ text (get_or es p d) ++ more → flat_map text (set es p x) ≡ flat_map text es ++ more
last-texts [] p x d more at is = absurd (omega (arith, at))
last-texts (e ∷ []) zero x d more at is = append-nil (text x) ∙ (is ∙ ap (λ (bs : List ℕ). bs ++ more) (sym (append-nil (text e))))
last-texts (e ∷ e2 ∷ es) zero x d more at is = absurd (omega (arith, at))
last-texts (e ∷ es) (suc p) x d more at is = ap (λ (bs : List ℕ). text e ++ bs) (last-texts es p x d more (omega (arith, at)) is) ∙ sym (append_assoc (text e) (flat_map text es) more)

module _ (more : List ℕ) (some : 0 < length more) where
  pub text-filled : (l : ℕ) (t : Node) → IsTreeAt l t → length more ≤ last_room l (shape_of t) → text (filled_at l t more) ≡ text t ++ more
  text-filled zero t tree fits =
      let is = (at-flat more t (omega (arith, some, fits))).0 in
      text-bytes t (t.0.length + length more) (flat_room t.0 - length more) (t.0.bytes ++ more) is ∙ ap (λ (bs : List ℕ). bs ++ more) (sym (text-flat t is))
  text-filled (suc l) t tree fits =
      let p = last_place t in
      let c = child_of t p in
      let es = set (children t) p (filled_at l c more) in
      text-above l (with_edges es t) (level-edges l t es tree)
      ∙ (ap (λ (zs : List Node). flat_map text zs) (trees-forest es)
      ∙ (last-texts (children t) p (filled_at l c more) t more (omega (arith, edges-some l t tree)) (text-filled l c (last-tree l t tree) (omega (arith, fits, room-below l t)))
      ∙ ap (λ (bs : List ℕ). bs ++ more) (sym (text-above l t tree.at))))

  pub bytes-filled : (l : ℕ) (t : Node) → IsTreeAt l t → length more ≤ last_room l (shape_of t) → IsFilled (filled_at l t more)
  bytes-filled zero t tree fits = filled-flat t more (at-flat more t (omega (arith, some, fits))).0 tree.filled
  bytes-filled (suc l) t tree fits =
      let p = last_place t in
      let c = child_of t p in
      filled-edges t (set (children t) p (filled_at l c more)) (at-branch l t tree).0
      (All-set IsFilled (children t) p (filled_at l c more) (bytes-filled l c (last-tree l t tree) (omega (arith, fits, room-below l t))) (filled-children t tree.filled))

-- ---- the whole tree
pub tree-at : (t : Node) → IsTree (shape_of t) → IsFilled t → IsTreeAt (level (shape_of t)) t
tree-at t tree full = record { at = refl; node = tree.node; filled = full }

pub low-behind : (t : Node) → IsTree (shape_of t) → length (path_behind t) ≤ 12
low-behind t tree = omega (arith, length-places (level (shape_of t)) t, tree.low)

module _ (t : Node) (more : List ℕ) (tree : IsTree (shape_of t)) (full : IsFilled t) (some : 0 < length more) (fits : length more ≤ room_behind t) where
  pub shape-behind : shape_of (filled_behind t more) ≡ shape_behind t (length more)
  shape-behind = shape-filled more some (level (shape_of t)) t (tree-at t tree full) fits

  pub text-behind : text (filled_behind t more) ≡ text t ++ more
  text-behind = text-filled more some (level (shape_of t)) t (tree-at t tree full) fits

  pub full-behind : IsFilled (filled_behind t more)
  full-behind = bytes-filled more some (level (shape_of t)) t (tree-at t tree full) fits

  pub tree-behind : IsTree (shape_of (filled_behind t more))
  tree-behind =
      let up = fills-up (level (shape_of t)) (shape_of t) (length more) tree.node fits in
      let root = filled-rooted (shape_of t) (length more) (record { node = tree.node; wide = tree.wide }) fits in
      let at = level-node (level (shape_of t)) (shape_behind t (length more)) up.node in
      subst IsTree (sym shape-behind) (record { node = root.node; low = omega (arith, at, tree.low); wide = root.wide })
