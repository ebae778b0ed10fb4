-- What the calls on cords leave: a tree exactly where there are more than 15 bytes or a sum, well formed, of so many bytes.
use Rattle.std.proofs.Common.{ℕ, ◌≡◌, ◌+◌, ◌-◌, ◌<◌, ◌≤◌, Bool, true, false, cond, eqb, leb, refl, sym, ap, subst, ◌∙◌, inl, inr, Option, Some, None, arith, eq-eqb, ne_eqb}
use Rattle.std.specs.Prelude.{min}
use Rattle.std.proofs.lemmas.Bool.{le-leb, lt-leb}
use mathlib.Core.Logic.{dite}
use native.Mathlib.Decide.{ℕ_discrete, dec_lt}
use Rattle.node_forest.specs.declared.kind.Kind.{Kind}
use Rattle.node_forest.specs.declared.kind.Kind.TheVariants.{Flat, External, Part, Sum, Branch}
use Rattle.node_forest.specs.declared.side.Side.{Side}
use Rattle.node_forest.specs.declared.side.Side.TheVariants.{Front, Back}
use Rattle.node_forest.specs.Forest.{Forest, empty, grow}
use Rattle.tree_shapes.specs.Cords.{CordShape, sum_of, IsTreeFor, IsCordShape, IsTreeWithoutSum, IsChanged, without_sum, inline_or, cord_of_bytes, external_shape, cord_of_external, filling_step, bytes_step, with_bytes_added, rooted, shared_step, with_cord_added, range_step, front_step, small_inline, cord_kept, sub_cord, front_cut, back_cut, with_sum, level_in}
use Rattle.tree_shapes.specs.Flats.{flat_shape, new_shape}
use Rattle.tree_shapes.specs.Keep.{kept, kept_in_front}
use Rattle.tree_shapes.specs.Room.{IsRooted}
use Rattle.tree_shapes.specs.Shape.{Form, Shape, level, length_of, IsNode, IsTree, IsRootOf, IsSum}
use Rattle.tree_shapes.specs.Sums.{skipped, sum_in, sum_over}
use Rattle.tree_shapes.proofs.FillLaws.{filling-rooted, filling-length, IsKept, kept-is, kept-in-front}
use Rattle.tree_shapes.proofs.FlatLaws.{flat-rooted, new-rooted, new-length, new-tree, with_bytes-rooted, with_bytes-length}
use Rattle.tree_shapes.proofs.GrowthLaws.{node-some}
use Rattle.tree_shapes.proofs.KeepLaws.{if_true, if_false}
use Rattle.tree_shapes.proofs.MergeLaws.{joins}
use Rattle.tree_shapes.proofs.ShapeLaws.{tree-root_of}

tree-rooted : (t : Shape) → IsTree t → IsRooted t
tree-rooted t tree = record { node = tree.node; wide = tree.wide }

-- ---- under the Sum
-- what a change begins with: bytes inline, or a tree of so many bytes
abbrev IsBare : ℕ → Option Shape → Type 0
IsBare n None = n ≤ 15
IsBare n (Some t) = IsTree t × (length_of t ≡ n)

bare-sum : (n more l : ℕ) (cs : Forest Form) → (let s : Shape = (record { kind = Sum; length = n; more = more }, cs) in IsSum s.0 cs → n ≡ l → IsBare l (skipped s))
bare-sum n more l empty is e = omega (arith, is, e)
bare-sum n more l (grow c cs empty) is e = (is.1, sym is.0 ∙ e)
bare-sum n more l (grow c cs (grow d ds rest)) is e = absurd is

bare-root : (n more l : ℕ) (k : Kind) (cs : Forest Form) → (let s : Shape = (record { kind = k; length = n; more = more }, cs) in IsRootOf k s → n ≡ l → IsBare l (skipped s))
bare-root n more l Flat cs root e = (root, e)
bare-root n more l External cs root e = (root, e)
bare-root n more l Part cs root e = (root, e)
bare-root n more l Sum cs root e = bare-sum n more l cs root e
bare-root n more l Branch cs root e = (root, e)

bare-for : (n : ℕ) (o : Option Shape) → IsTreeFor n o → IsBare n (without_sum o)
bare-for n None is = is
bare-for n (Some s) is = bare-root s.0.length s.0.more n s.0.kind s.1 is.0 is.1

-- ---- no Sum
no_sum-at : (n more l : ℕ) (k : Kind) (cs : Forest Form) → (let s : Shape = (record { kind = k; length = n; more = more }, cs) in IsNode (level s) s → sum_in s ≡ None)
unfolding level
no_sum-at n more l Flat cs node = refl
no_sum-at n more l External cs node = refl
no_sum-at n more l Part cs node = refl
no_sum-at n more l Sum cs node = absurd node
no_sum-at n more l Branch cs node = refl

pub rooted-no_sum : (t : Shape) → IsRooted t → sum_in t ≡ None
rooted-no_sum t root = no_sum-at t.0.length t.0.more 0 t.0.kind t.1 root.node

pub changed-no_sum : (n : ℕ) (o : Option Shape) → IsTreeWithoutSum n o → sum_of o ≡ None
changed-no_sum n None is = refl
changed-no_sum n (Some t) is = rooted-no_sum t is.0

-- ---- heights
root-low : (n more l : ℕ) (k : Kind) (cs : Forest Form) → (let s : Shape = (record { kind = k; length = n; more = more }, cs) in IsRootOf k s → level s ≤ 12)
unfolding level
root-low n more l Flat cs root = omega arith
root-low n more l External cs root = omega arith
root-low n more l Part cs root = omega arith
root-low n more l Sum cs root = omega arith
root-low n more l Branch cs root = root.low

pub cord-low : (n : ℕ) (o : Option Shape) → IsTreeFor n o → level_in o ≤ 12
cord-low n None is = omega arith
cord-low n (Some s) is = root-low s.0.length s.0.more 0 s.0.kind s.1 is.0

pub changed-tree : (n : ℕ) (o : Option Shape) → IsTreeWithoutSum n o → level_in o ≤ 12 → IsTreeFor n o
changed-tree n None is low = is
changed-tree n (Some t) is low =
    let tree : IsTree t = record { node = is.0.node; low = low; wide = is.0.wide } in
    (tree-root_of t tree, is.1, inl is.2)

pub changed-whole : (n : ℕ) (c : CordShape) → IsChanged n c → level_in c.tree ≤ 12 → IsCordShape c
changed-whole n c is low = subst (λ (m : ℕ). IsTreeFor m c.tree) (sym is.0) (changed-tree n c.tree is.1 low)

-- ---- small cords are inline
inline-small : (n : ℕ) (o : Option Shape) → n ≤ 15 → cond (leb n 15) None o ≡ None
inline-small n o small = if_true (leb n 15) None o (le-leb n 15 small)

inline-large : (n : ℕ) (o : Option Shape) → 15 < n → cond (leb n 15) None o ≡ o
inline-large n o large = if_false (leb n 15) None o (lt-leb n 15 large)

inline-or : (n : ℕ) (o : Option Shape) → (15 < n → IsTreeWithoutSum n o) → IsTreeWithoutSum n (cond (leb n 15) None o)
inline-or n o large = dite (dec_lt 15 n)
    (λ more. subst (IsTreeWithoutSum n) (sym (inline-large n o more)) (large more))
    (λ few. let small : n ≤ 15 = omega arith in subst (IsTreeWithoutSum n) (sym (inline-small n o small)) small)

-- ---- new cords
pub bytes-changed : (n : ℕ) → IsChanged n (cord_of_bytes n)
bytes-changed n = (refl, inline-or n (Some (new_shape n)) (λ large. (new-rooted n (omega (arith, large)), new-length n (omega (arith, large)), large)))

pub bytes-whole : (n : ℕ) → n ≤ 2147483647 → IsCordShape (cord_of_bytes n)
bytes-whole n small = dite (dec_lt 15 n)
    (λ large.
    let tree = new-tree n (omega (arith, large)) small in
    subst (IsTreeFor n) (sym (inline-large n (Some (new_shape n)) large)) (tree-root_of (new_shape n) tree, new-length n (omega (arith, large)), inl large))
    (λ few. let tiny : n ≤ 15 = omega arith in subst (IsTreeFor n) (sym (inline-small n (Some (new_shape n)) tiny)) tiny)

pub external-whole : (n : ℕ) → 15 < n → n ≤ 2147483647 → IsCordShape (cord_of_external n)
unfolding level
external-whole n large small =
    let tree : IsTree (external_shape n) = record { node = record { some = omega (arith, large); small = small }; low = omega arith; wide = λ up. absurd (omega (arith, up)) } in
    (tree-root_of (external_shape n) tree, refl, inl large)

-- ---- bytes added
if_zero : {X : Type 0} (n : ℕ) (x y : X) → 0 < n → cond (eqb n 0) x y ≡ y
if_zero n x y some = if_false (eqb n 0) x y (ne_eqb n 0 (λ z. absurd (omega (arith, z, some))))

filled-rooted : (fills : Bool) (side : Side) (sum : Option ℕ) (t : Shape) (n : ℕ) → IsRooted t → IsRooted (filling_step fills side sum t n)
filled-rooted true Back None t n root = filling-rooted t n root
filled-rooted true Back (Some v) t n root = with_bytes-rooted Back t n root
filled-rooted true Front sum t n root = with_bytes-rooted Front t n root
filled-rooted false side sum t n root = with_bytes-rooted side t n root

filled-length : (fills : Bool) (side : Side) (sum : Option ℕ) (t : Shape) (n : ℕ) → IsRooted t → length_of (filling_step fills side sum t n) ≡ length_of t + n
filled-length true Back None t n root = filling-length t n root
filled-length true Back (Some v) t n root = with_bytes-length Back t n root
filled-length true Front sum t n root = with_bytes-length Front t n root
filled-length false side sum t n root = with_bytes-length side t n root

stepped : (fills : Bool) (side : Side) (n : ℕ) (c : CordShape) (o : Option Shape) → IsBare c.size o → 15 < c.size + n → IsTreeWithoutSum (c.size + n) (Some (bytes_step fills side n c o))
stepped fills side n c None bare large = (new-rooted (c.size + n) (omega (arith, large)), new-length (c.size + n) (omega (arith, large)), large)
stepped fills side n c (Some t) bare large =
    let root = tree-rooted t bare.0 in
    (filled-rooted fills side (sum_of c.tree) t n root, filled-length fills side (sum_of c.tree) t n root ∙ ap (λ (k : ℕ). k + n) bare.1, large)

pub bytes-added : (fills : Bool) (side : Side) (n : ℕ) (c : CordShape) → IsCordShape c → 0 < n → IsChanged (c.size + n) (with_bytes_added fills side n c)
bytes-added fills side n c whole some =
    let o = without_sum c.tree in
    subst (IsChanged (c.size + n)) (sym (if_zero n c (inline_or (c.size + n) (bytes_step fills side n c o)) some))
    (refl, inline-or (c.size + n) (Some (bytes_step fills side n c o)) (λ large. stepped fills side n c o (bare-for c.size c.tree whole) large))

-- ---- a cord added
rooted-bare : (n : ℕ) (o : Option Shape) → IsBare n o → 0 < n → (t : Shape) × (rooted n o ≡ Some t) × IsRooted t × (length_of t ≡ n)
rooted-bare n None bare some = (flat_shape n, if_zero n None (Some (flat_shape n)) some, flat-rooted n (record { some = some; few = omega (arith, bare) }), refl)
rooted-bare n (Some t) bare some = (t, refl, tree-rooted t bare.0, bare.1)

bare-none : (n : ℕ) (o : Option Shape) → IsBare n o → n ≡ 0 → rooted n o ≡ None
bare-none n None bare z = if_true (eqb n 0) None (Some (flat_shape n)) (eq-eqb n 0 z)
bare-none n (Some t) bare z = absurd (omega (arith, z, bare.1, node-some (level t) t bare.0.node))

bare-large : (n : ℕ) (o : Option Shape) → IsBare n o → 15 < n → (t : Shape) × (o ≡ Some t) × IsRooted t × (length_of t ≡ n)
bare-large n None bare large = absurd (omega (arith, bare, large))
bare-large n (Some t) bare large = (t, refl, tree-rooted t bare.0, bare.1)

shares : (side : Side) (n m : ℕ) (o x : Option Shape) → IsBare n o → IsBare m x → 15 < m → IsTreeWithoutSum (n + m) (shared_step side (rooted n o) x)
shares side n m o x bare source large =
    let s = bare-large m x source large in
    dite (ℕ_discrete n 0)
    (λ z. subst (IsTreeWithoutSum (n + m)) (sym ((λ i. shared_step side (bare-none n o bare z i) (s.1 i)))) (s.2, s.3 ∙ omega (arith, z), omega (arith, large)))
    (λ nz.
    let t = rooted-bare n o bare (omega (arith, nz)) in
    let j = joins side t.0 s.0 t.2 s.2 in
    subst (IsTreeWithoutSum (n + m)) (sym ((λ i. shared_step side (t.1 i) (s.1 i)))) (j.root, j.all ∙ (λ i. t.3 i + s.3 i), omega (arith, large)))

pub cord-added : (fills : Bool) (side : Side) (source c : CordShape) → IsCordShape source → IsCordShape c → 0 < source.size → IsChanged (c.size + source.size) (with_cord_added fills side source c)
cord-added fills side source c from whole some = dite (dec_lt 511 source.size)
    (λ long. subst (IsChanged (c.size + source.size)) (sym (if_false (leb source.size 511) _ _ (lt-leb source.size 511 long)))
    (refl, shares side c.size source.size (without_sum c.tree) (without_sum source.tree) (bare-for c.size c.tree whole) (bare-for source.size source.tree from) (omega (arith, long))))
    (λ short. subst (IsChanged (c.size + source.size)) (sym (if_true (leb source.size 511) _ _ (le-leb source.size 511 (omega arith)))) (bytes-added fills side source.size c whole some))

-- ---- ranges kept
kept-without : (t : Shape) (n : ℕ) (c : Shape) → IsKept t n c → 15 < n → IsTreeWithoutSum n (Some c)
kept-without t n c is large = (is.root, is.long, large)

ranged : (start n l : ℕ) (o : Option Shape) → IsBare l o → start + n ≤ l → 15 < n → IsTreeWithoutSum n (range_step start n o)
ranged start n l None bare fits large = absurd (omega (arith, bare, fits, large))
ranged start n l (Some t) bare fits large = kept-without t n (kept t start n) (kept-is t start n (tree-rooted t bare.0) (omega (arith, large)) (omega (arith, fits, bare.1))) large

ranged-low : (start n l : ℕ) (o : Option Shape) → IsBare l o → start + n ≤ l → 15 < n → level_in (range_step start n o) ≤ 12
ranged-low start n l None bare fits large = omega arith
ranged-low start n l (Some t) bare fits large = omega (arith, (kept-is t start n (tree-rooted t bare.0) (omega (arith, large)) (omega (arith, fits, bare.1))).low, bare.0.low)

small-low : (n : ℕ) (o : Option Shape) → (15 < n → level_in o ≤ 12) → level_in (cond (leb n 15) None o) ≤ 12
small-low n o large = dite (dec_lt 15 n)
    (λ more. omega (arith, ap level_in (inline-large n o more), large more))
    (λ few. omega (arith, ap level_in (inline-small n o (omega arith))))

pub kept-changed : (start n : ℕ) (c : CordShape) → IsCordShape c → start + n ≤ c.size → IsChanged n (cord_kept start n c)
kept-changed start n c whole fits = (refl, inline-or n (range_step start n (without_sum c.tree)) (λ large. ranged start n c.size (without_sum c.tree) (bare-for c.size c.tree whole) fits large))

pub kept-low : (start n : ℕ) (c : CordShape) → IsCordShape c → start + n ≤ c.size → level_in (cord_kept start n c).tree ≤ 12
kept-low start n c whole fits = small-low n (range_step start n (without_sum c.tree)) (λ large. ranged-low start n c.size (without_sum c.tree) (bare-for c.size c.tree whole) fits large)

fronted : (shortens : Bool) (n l : ℕ) (sum : Option ℕ) (o : Option Shape) → IsBare l o → n ≤ l → 15 < n → IsTreeWithoutSum n (front_step shortens n sum o) × (level_in (front_step shortens n sum o) ≤ 12)
fronted shortens n l sum None bare fits large = absurd (omega (arith, bare, fits, large))
fronted shortens n l None (Some t) bare fits large =
    let k = kept-in-front shortens t n (tree-rooted t bare.0) (omega (arith, large)) (omega (arith, fits, bare.1)) in
    (kept-without t n (kept_in_front shortens t n) k large, omega (arith, k.low, bare.0.low))
fronted shortens n l (Some v) (Some t) bare fits large =
    let k = kept-is t 0 n (tree-rooted t bare.0) (omega (arith, large)) (omega (arith, fits, bare.1)) in
    (kept-without t n (kept t 0 n) k large, omega (arith, k.low, bare.0.low))

pub sub-changed : (pos n : ℕ) (c : CordShape) → IsCordShape c → IsChanged (min n (c.size - min pos c.size)) (sub_cord pos n c)
sub-changed pos n c whole = kept-changed (min pos c.size) (min n (c.size - min pos c.size)) c whole (omega arith)

pub sub-low : (pos n : ℕ) (c : CordShape) → IsCordShape c → level_in (sub_cord pos n c).tree ≤ 12
sub-low pos n c whole = kept-low (min pos c.size) (min n (c.size - min pos c.size)) c whole (omega arith)

pub front-changed : (n : ℕ) (c : CordShape) → IsCordShape c → 0 < n → n ≤ c.size → IsChanged (c.size - n) (front_cut n c)
front-changed n c whole some fits = subst (IsChanged (c.size - n)) (sym (if_zero n c (cord_kept n (c.size - n) c) some)) (kept-changed n (c.size - n) c whole (omega (arith, fits)))

front-low : (n : ℕ) (c : CordShape) → IsCordShape c → 0 < n → n ≤ c.size → level_in (front_cut n c).tree ≤ 12
front-low n c whole some fits = omega (arith, ap (λ (d : CordShape). level_in d.tree) (if_zero n c (cord_kept n (c.size - n) c) some), kept-low n (c.size - n) c whole (omega (arith, fits)))

module _ (shortens : Bool) (n : ℕ) (c : CordShape) (whole : IsCordShape c) (some : 0 < n) (fits : n ≤ c.size) where
  abbrev left : Option Shape
  left = front_step shortens (c.size - n) (sum_of c.tree) (without_sum c.tree)

  is-left : back_cut shortens n c ≡ small_inline (c.size - n) left
  is-left = if_zero n c (small_inline (c.size - n) left) some

  both : 15 < c.size - n → IsTreeWithoutSum (c.size - n) left × (level_in left ≤ 12)
  both large = fronted shortens (c.size - n) c.size (sum_of c.tree) (without_sum c.tree) (bare-for c.size c.tree whole) (omega arith) large

  pub back-changed : IsChanged (c.size - n) (back_cut shortens n c)
  back-changed = subst (IsChanged (c.size - n)) (sym is-left) (refl, inline-or (c.size - n) left (λ large. (both large).0))

  back-low : level_in (back_cut shortens n c).tree ≤ 12
  back-low = omega (arith, ap (λ (d : CordShape). level_in d.tree) is-left, small-low (c.size - n) left (λ large. (both large).1))

-- ---- whole cords
if_none : {X : Type 0} (n : ℕ) (x y : X) → n ≡ 0 → cond (eqb n 0) x y ≡ x
if_none n x y z = if_true (eqb n 0) x y (eq-eqb n 0 z)

pub sub-whole : (pos n : ℕ) (c : CordShape) → IsCordShape c → IsCordShape (sub_cord pos n c)
sub-whole pos n c whole = changed-whole _ (sub_cord pos n c) (sub-changed pos n c whole) (sub-low pos n c whole)

pub front-whole : (n : ℕ) (c : CordShape) → IsCordShape c → n ≤ c.size → IsCordShape (front_cut n c)
front-whole n c whole fits = dite (ℕ_discrete n 0)
    (λ z. subst IsCordShape (sym (if_none n c (cord_kept n (c.size - n) c) z)) whole)
    (λ nz. changed-whole _ (front_cut n c) (front-changed n c whole (omega (arith, nz)) fits) (front-low n c whole (omega (arith, nz)) fits))

pub back-whole : (shortens : Bool) (n : ℕ) (c : CordShape) → IsCordShape c → n ≤ c.size → IsCordShape (back_cut shortens n c)
back-whole shortens n c whole fits = dite (ℕ_discrete n 0)
    (λ z. subst IsCordShape (sym (if_none n c (small_inline (c.size - n) (front_step shortens (c.size - n) (sum_of c.tree) (without_sum c.tree))) z)) whole)
    (λ nz. changed-whole _ (back_cut shortens n c) (back-changed shortens n c whole (omega (arith, nz)) fits) (back-low shortens n c whole (omega (arith, nz)) fits))

pub added-whole : (fills : Bool) (side : Side) (n : ℕ) (c : CordShape) → IsCordShape c → level_in (with_bytes_added fills side n c).tree ≤ 12 → IsCordShape (with_bytes_added fills side n c)
added-whole fills side n c whole low = dite (ℕ_discrete n 0)
    (λ z. subst IsCordShape (sym (if_none n c (inline_or (c.size + n) (bytes_step fills side n c (without_sum c.tree))) z)) whole)
    (λ nz. changed-whole _ (with_bytes_added fills side n c) (bytes-added fills side n c whole (omega (arith, nz))) low)

pub cord-added_whole : (fills : Bool) (side : Side) (source c : CordShape) → IsCordShape source → IsCordShape c → level_in (with_cord_added fills side source c).tree ≤ 12 → IsCordShape (with_cord_added fills side source c)
cord-added_whole fills side source c from whole low = dite (ℕ_discrete source.size 0)
    (λ z.
    let copied : with_cord_added fills side source c ≡ c = if_true (leb source.size 511) _ _ (le-leb source.size 511 (omega (arith, z))) ∙ if_none source.size c (inline_or (c.size + source.size) (bytes_step fills side source.size c (without_sum c.tree))) z in
    subst IsCordShape (sym copied) whole)
    (λ nz. changed-whole _ (with_cord_added fills side source c) (cord-added fills side source c from whole (omega (arith, nz))) low)

-- ---- a sum set
flat-tree : (n : ℕ) → 0 < n → n ≤ 15 → IsTree (flat_shape n)
unfolding level
flat-tree n some small =
    let root = flat-rooted n (record { some = some; few = omega (arith, small) }) in
    record { node = root.node; low = omega arith; wide = root.wide }

sum-rooted : (value n : ℕ) (o : Option Shape) → IsBare n o → IsTreeFor n (Some (sum_over value (rooted n o)))
sum-rooted value n None bare = dite (ℕ_discrete n 0)
    (λ z. subst (λ (p : Option Shape). IsTreeFor n (Some (sum_over value p))) (sym (if_none n None (Some (flat_shape n)) z)) (refl, sym z, inr refl))
    (λ nz. subst (λ (p : Option Shape). IsTreeFor n (Some (sum_over value p))) (sym (if_zero n None (Some (flat_shape n)) (omega (arith, nz)))) ((refl, flat-tree n (omega (arith, nz)) bare), refl, inr refl))
sum-rooted value n (Some t) bare = ((refl, bare.0), bare.1, inr refl)

pub sum-whole : (value : ℕ) (c : CordShape) → IsCordShape c → IsCordShape (with_sum value c)
sum-whole value c whole = sum-rooted value c.size (without_sum c.tree) (bare-for c.size c.tree whole)

sum-over : (value : ℕ) (o : Option Shape) → sum_in (sum_over value o) ≡ Some value
sum-over value None = refl
sum-over value (Some t) = refl

pub sum-set : (value : ℕ) (c : CordShape) → sum_of (with_sum value c).tree ≡ Some value
sum-set value c = sum-over value (rooted c.size (without_sum c.tree))
