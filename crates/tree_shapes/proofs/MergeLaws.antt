-- Two trees that are merged: well formed but for the height, of both lengths, and how high.
use Rattle.std.proofs.Common.{ℕ, zero, suc, ◌≡◌, ◌+◌, ◌-◌, ◌<◌, ◌≤◌, Bool, true, false, cond, leb, eqb, List, [], ◌∷◌, length, sum_by, set, refl, sym, ap, subst, ◌∙◌, Option, Some, None, arith, eq-eqb}
use Rattle.std.specs.List.{All}
use Rattle.std.specs.Prelude.{unwrap_or}
use Rattle.std.proofs.lemmas.Bool.{leb-true, le-leb, lt-leb}
use Rattle.std.proofs.lemmas.List.{length-set, length-append}
use Rattle.std.proofs.lemmas.List.Sums.{sum_by-append}
use Rattle.std.proofs.lemmas.List.Elements.{All-append}
use mathlib.Core.Logic.{dite}
use native.Mathlib.Decide.{ℕ_discrete, dec_lt}
use Rattle.node_forest.specs.declared.side.Side.{Side}
use Rattle.node_forest.specs.declared.side.Side.TheVariants.{Front, Back}
use Rattle.node_forest.specs.Forest.{children}
use Rattle.tree_shapes.specs.Growth.{placed, beside, outer, outermost, with_edges, wrapped, grown_from, grown, added_by}
use Rattle.tree_shapes.specs.Merge.{across, merged, meeting, joined, Joins}
use Rattle.tree_shapes.specs.Room.{IsRooted}
use Rattle.tree_shapes.specs.Shape.{Shape, level, branch_over, length_of, IsNode}
use Rattle.tree_shapes.proofs.GrowthLaws.{length-over, edges-over, length-placed, if_some, IsNode-with_edges, Meets, added_by-adds}

pub length-beside : {X : Type 0} (side : Side) (xs ys : List X) → length (beside side xs ys) ≡ length xs + length ys
length-beside Front xs ys = length-append ys xs ∙ omega arith
length-beside Back xs ys = length-append xs ys

pub sum-beside : (side : Side) (f : Shape → ℕ) (xs ys : List Shape) → sum_by f (beside side xs ys) ≡ sum_by f xs + sum_by f ys
sum-beside Front f xs ys = sum_by-append f ys xs ∙ omega arith
sum-beside Back f xs ys = sum_by-append f xs ys

pub All-beside : {X : Type 0} (side : Side) (P : X → Type 0) (xs ys : List X) → All P xs → All P ys → All P (beside side xs ys)
All-beside Front P xs ys a b = All-append P ys xs b a
All-beside Back P xs ys a b = All-append P xs ys a b

-- ---- two Branches of one height, whose edges go into one
module _ (side : Side) (h : ℕ) (x m c : Shape) (is : merged side x m ≡ Some c) where
  abbrev edges : List Shape
  edges = beside side (children m) (children x)

  fits : (leb (length (children m) + length (children x)) 6 ≡ true) × (with_edges m edges ≡ c)
  fits = if_some (leb (length (children m) + length (children x)) 6) (with_edges m edges) c is

  pub merged-node : IsNode (suc h) m → IsNode (suc h) x → IsNode (suc h) c
  merged-node node other =
      let room = leb-true _ _ fits.0 in
      let long = length-beside side (children m) (children x) in
      subst (IsNode (suc h)) fits.1 (IsNode-with_edges h m edges node.at_level (omega (arith, node.some, long)) (omega (arith, room, long)) (All-beside side (IsNode h) (children m) (children x) node.below other.below))

  pub merged-length : IsNode (suc h) m → IsNode (suc h) x → length_of c ≡ length_of m + length_of x
  merged-length node other =
      ap length_of (sym fits.1) ∙ length-over _ _ ∙ omega (arith, sum-beside side length_of (children m) (children x), node.long, other.long)

  pub merged-wide : length (children m) ≤ length (children c)
  merged-wide =
      let e : length (children (with_edges m edges)) ≡ length edges = ap (λ (es : List Shape). length es) (edges-over (level m - 1) edges) in
      omega (arith, ap (λ (s : Shape). length (children s)) fits.1, e, length-beside side (children m) (children x))

if_none : (b : Bool) (o : Option Shape) (c : Shape) → cond b None o ≡ Some c → (b ≡ false) × (o ≡ Some c)
if_none true o c e = absurd (cc)
if_none false o c e = (refl, e)

meeting-above : (side : Side) (x m c : Shape) → meeting side x m ≡ Some c → 0 < level x
meeting-above side x m c is = dite (ℕ_discrete (level x) 0)
    (λ z. absurd (no-both (eqb (level x) 0) (eq-eqb (level x) 0 z) (if_none (eqb (level x) 0) (merged side x m) c is).0))
    (λ nz. omega (arith, nz))
  where
    no-both : (b : Bool) → b ≡ true → b ≡ false → ⊥
    no-both b t f = cc

meeting-merged : (side : Side) (x m c : Shape) → meeting side x m ≡ Some c → merged side x m ≡ Some c
meeting-merged side x m c is = (if_none (eqb (level x) 0) (merged side x m) c is).1

pub Meets-meeting : (side : Side) (x : Shape) → IsNode (level x) x → Meets (meeting side x) x
Meets-meeting side x other = record {
  node = λ m c e n.
      let up = meeting-above side x m c e in
      let at : level x ≡ suc (level x - 1) = omega (arith, up) in
      subst (λ l. IsNode l c) (sym at) (merged-node side (level x - 1) x m c (meeting-merged side x m c e) (subst (λ l. IsNode l m) at n) (subst (λ l. IsNode l x) at other));
  all = λ m c e n.
      let up = meeting-above side x m c e in
      let at : level x ≡ suc (level x - 1) = omega (arith, up) in
      merged-length side (level x - 1) x m c (meeting-merged side x m c e) (subst (λ l. IsNode l m) at n) (subst (λ l. IsNode l x) at other);
}

-- ---- how many edges a root has then
module _ (side : Side) (meet : Shape → Option Shape) (x : Shape) (wide : (m c : Shape) → meet m ≡ Some c → length (children m) ≤ length (children c)) where
  from-wide : (d : ℕ) (m c : Shape) (o : Option Shape) → grown_from side m (wrapped d x) o ≡ Some c → length (children m) ≤ length (children c)
  from-wide d m c (Some g) is =
      let at = outer side (length (children m)) in
      let q : with_edges m (set (children m) at g) ≡ c = cc in
      let e : length (children (with_edges m (set (children m) at g))) ≡ length (set (children m) at g) = ap (λ (es : List Shape). length es) (edges-over (level m - 1) (set (children m) at g)) in
      omega (arith, ap (λ (s : Shape). length (children s)) q, e, length-set (children m) at g)
  from-wide d m c None is =
      let es = placed side (children m) (wrapped d x) in
      let p = if_some _ (with_edges m es) c is in
      let e : length (children (with_edges m es)) ≡ length es = ap (λ (zs : List Shape). length zs) (edges-over (level m - 1) es) in
      omega (arith, ap (λ (s : Shape). length (children s)) p.1, e, length-placed side (children m) (wrapped d x))

  grown-wide : (d : ℕ) (m c : Shape) → grown side meet d m x ≡ Some c → length (children m) ≤ length (children c)
  unfolding grown
  grown-wide zero m c is = wide m c is
  grown-wide (suc d) m c is = from-wide d m c (grown side meet d (outermost side m) x) is

  by-wide : (d : ℕ) (t : Shape) (o : Option Shape) → grown side meet d t x ≡ o → (0 < level t → 2 ≤ length (children t)) → ((c : Shape) → o ≡ Some c → 0 < level t)
      → 2 ≤ length (children (unwrap_or o (branch_over (level t) (placed side (t ∷ []) (wrapped d x)))))
  by-wide d t (Some c) is root up = omega (arith, root (up c refl), grown-wide d t c is)
  by-wide d t None is root up =
      let es = placed side (t ∷ []) (wrapped d x) in
      let e : length (children (branch_over (level t) es)) ≡ length es = ap (λ (zs : List Shape). length zs) (edges-over (level t) es) in
      omega (arith, e, length-placed side (t ∷ []) (wrapped d x))

  low-meets : (d : ℕ) (t c : Shape) → d ≡ 0 → grown side meet d t x ≡ Some c → meet t ≡ Some c
  unfolding grown
  low-meets zero t c z is = is
  low-meets (suc d) t c z is = absurd (omega (arith, z))

  pub added_by-wide : (t : Shape) → (0 < level t → 2 ≤ length (children t)) → ((c : Shape) → meet t ≡ Some c → 0 < level x) → level x ≤ level t → 2 ≤ length (children (added_by meet side t x))
  added_by-wide t root some low =
      let d : ℕ = level t - level x in
      by-wide d t (grown side meet d t x) refl root (λ c is. dite (ℕ_discrete (level t) 0)
      (λ z. let up = some c (low-meets d t c (omega (arith, z)) is) in omega (arith, up, low))
      (λ nz. omega (arith, nz)))

-- ---- the two trees
if_true : (b : Bool) (x y : Shape) → b ≡ true → cond b x y ≡ x
if_true true x y e = refl
if_true false x y e = absurd (cc)

if_false : (b : Bool) (x y : Shape) → b ≡ false → cond b x y ≡ y
if_false true x y e = absurd (cc)
if_false false x y e = refl

joins-lower : (side : Side) (t x : Shape) → IsRooted t → IsRooted x → level x ≤ level t → Joins t x (added_by (meeting side x) side t x)
joins-lower side t x root other low =
    let a = added_by-adds side (meeting side x) t x root.node other.node (Meets-meeting side x other.node) low in
    record {
      root = record {
        node = a.node;
        wide = λ up. added_by-wide side (meeting side x) x (λ m c e. merged-wide side (level x - 1) x m c (meeting-merged side x m c e)) t root.wide (λ c e. meeting-above side x t c e) low;
      };
      all = a.all;
      no_lower = omega (arith, a.no_lower, low);
      rises = omega (arith, a.rises, low);
    }

joined-lower : (side : Side) (t x : Shape) → level x ≤ level t → joined side t x ≡ added_by (meeting side x) side t x
joined-lower side t x low = if_true (leb (level x) (level t)) _ _ (le-leb (level x) (level t) low)

joined-higher : (side : Side) (t x : Shape) → level t < level x → joined side t x ≡ added_by (meeting (across side) t) (across side) x t
joined-higher side t x high = if_false (leb (level x) (level t)) _ _ (lt-leb (level x) (level t) high)

swapped : (t x c : Shape) → Joins x t c → Joins t x c
swapped t x c j = record { root = j.root; all = omega (arith, j.all); no_lower = omega (arith, j.no_lower); rises = omega (arith, j.rises) }

pub joins : (side : Side) (t x : Shape) → IsRooted t → IsRooted x → Joins t x (joined side t x)
joins side t x root other = dite (dec_lt (level t) (level x))
    (λ high. subst (Joins t x) (sym (joined-higher side t x high)) (swapped t x _ (joins-lower (across side) x t other root (omega arith))))
    (λ no_higher. let low : level x ≤ level t = omega arith in subst (Joins t x) (sym (joined-lower side t x low)) (joins-lower side t x root other low))

-- ---- what comes in front of a tree has that tree behind it
across-twice : (side : Side) → across (across side) ≡ side
across-twice Front = refl
across-twice Back = refl

if_cond : (b e : Bool) (x y : Shape) → b ≡ e → x ≡ y → cond b (Some x) None ≡ cond e (Some y) None
if_cond b e x y p q = λ i. cond (p i) (Some (q i)) None

beside-across : {X : Type 0} (side : Side) (xs ys : List X) → beside side xs ys ≡ beside (across side) ys xs
beside-across Front xs ys = refl
beside-across Back xs ys = refl

placed-across : (side : Side) (t x : Shape) → placed side (t ∷ []) x ≡ placed (across side) (x ∷ []) t
placed-across Front t x = refl
placed-across Back t x = refl

merged-across : (side : Side) (t x : Shape) → level t ≡ level x → merged side x t ≡ merged (across side) t x
merged-across side t x at =
    if_cond (leb (length (children t) + length (children x)) 6) (leb (length (children x) + length (children t)) 6) _ _
    (ap (λ (n : ℕ). leb n 6) (omega arith))
    (λ i. branch_over (at i - 1) (beside-across side (children t) (children x) i))

meeting-across : (side : Side) (t x : Shape) → level t ≡ level x → meeting side x t ≡ meeting (across side) t x
meeting-across side t x at = λ i. cond (eqb (sym at i) 0) None (merged-across side t x at i)

level-added : (meet : Shape → Option Shape) (side : Side) (t x : Shape) → level t ≡ level x → added_by meet side t x ≡ unwrap_or (meet t) (branch_over (level t) (placed side (t ∷ []) x))
unfolding grown wrapped
level-added meet side t x at =
    let d : level t - level x ≡ 0 = omega (arith, at) in
    ap (λ (n : ℕ). unwrap_or (grown side meet n t x) (branch_over (level t) (placed side (t ∷ []) (wrapped n x)))) d

pub joined-across : (side : Side) (t x : Shape) → joined side t x ≡ joined (across side) x t
joined-across side t x = dite (dec_lt (level t) (level x))
    (λ high. joined-higher side t x high ∙ sym (joined-lower (across side) x t (omega arith)))
    (λ no_higher. dite (ℕ_discrete (level t) (level x))
    (λ same. joined-lower side t x (omega arith)
    ∙ level-added (meeting side x) side t x same
    ∙ (λ i. unwrap_or (meeting-across side t x same i) (branch_over (same i) (placed-across side t x i)))
    ∙ sym (level-added (meeting (across side) t) (across side) x t (sym same))
    ∙ sym (joined-lower (across side) x t (omega arith)))
    (λ differ. joined-lower side t x (omega arith)
    ∙ (λ i. added_by (meeting (sym (across-twice side) i) x) (sym (across-twice side) i) t x)
    ∙ sym (joined-higher (across side) x t (omega (arith, differ)))))
