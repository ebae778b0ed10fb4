-- Many data edges added one after another: what is left of a node's room, and which groups of them come under one node.
use Rattle.std.proofs.Common.{ℕ, zero, suc, ◌≡◌, ◌+◌, ◌-◌, ◌*◌, ◌<◌, ◌≤◌, Bool, cond, ltb, List, [], ◌∷◌, ◌++◌, length, sum_by, take, drop, take-append-drop, length-take, length-drop, refl, sym, ap, subst, ◌∙◌, get_or, set, Option, Some, None, arith}
use Rattle.std.specs.List.{All}
use Rattle.std.specs.Prelude.{unwrap_or}
use Rattle.std.proofs.lemmas.Bool.{lt-ltb, le-ltb}
use Rattle.std.proofs.lemmas.List.{length-append, get_or_append_left}
use Rattle.std.proofs.lemmas.List.Sums.{fold-append, sum_by-append}
use Rattle.std.proofs.lemmas.List.Elements.{All-cons, All-nil}
use Rattle.std.proofs.Math.Seq.{get_or-append_seam, set-append_seam}
use Rattle.std.proofs.Math.Nat.{suc-mul, add-suc}
use mathlib.Core.Logic.{dite}
use native.Mathlib.Decide.{ℕ_discrete, dec_lt}
use Rattle.node_forest.specs.declared.kind.Kind.{Kind}
use Rattle.node_forest.specs.declared.kind.Kind.TheVariants.{Flat, External, Part, Sum, Branch}
use Rattle.node_forest.specs.declared.side.Side.{Side}
use Rattle.node_forest.specs.declared.side.Side.TheVariants.{Front, Back}
use Rattle.node_forest.specs.Forest.{Forest, trees, children}
use Rattle.node_forest.proofs.Maps.{forest-trees}
use Rattle.tree_shapes.specs.Shape.{Form, Shape, level_step, level, branch_over, length_of, IsNode}
use Rattle.tree_shapes.proofs.ShapeLaws.{level-node}
use Rattle.tree_shapes.specs.Growth.{placed, outer, outermost, with_edges, wrapped, with_edge, grown_from, grown, no_meeting, added, with_all}
use Rattle.tree_shapes.specs.Room.{most_under, room_at, taken_in, filled, packed, laid, room_outside, IsLift, IsRooted}
use Rattle.tree_shapes.proofs.GrowthLaws.{level-over, edges-over, length-over, length-placed, All-placed, IsNode-wrapped, Meets, added_by-adds}

pub most-some : (l : ℕ) → 0 < most_under l
unfolding most_under
most-some zero = omega arith
most-some (suc l) = omega (arith, most-some l)

pub room-one : (n p : ℕ) → n < 6 → (6 - n) * p ≡ (6 - suc n) * p + p
room-one n p h =
    let e : 6 - n ≡ suc (6 - suc n) = omega arith in
    ap (λ k. k * p) e ∙ suc-mul (6 - suc n) p

room-none : (n p : ℕ) → 0 < p → (6 - n) * p ≡ 0 → 6 ≤ n
room-none n p some e = dite (dec_lt n 6)
    (λ lt. absurd (omega (arith, room-one n p lt, e, some)))
    (λ no. omega arith)

-- ---- lists whose outermost element is known
pub get-placed : {X : Type 0} (side : Side) (fs : List X) (c d : X) → get_or (placed side fs c) (outer side (length (placed side fs c))) d ≡ c
get-placed Front fs c d = refl
get-placed Back fs c d =
    let e : length (fs ++ c ∷ []) - 1 ≡ length fs = omega (arith, length-append fs (c ∷ [])) in
    ap (λ n. get_or (fs ++ c ∷ []) n d) e ∙ get_or-append_seam fs c [] d

pub set-placed : {X : Type 0} (side : Side) (fs : List X) (c x : X) → set (placed side fs c) (outer side (length (placed side fs c))) x ≡ placed side fs x
set-placed Front fs c x = refl
set-placed Back fs c x =
    let e : length (fs ++ c ∷ []) - 1 ≡ length fs = omega (arith, length-append fs (c ∷ [])) in
    ap (λ n. set (fs ++ c ∷ []) n x) e ∙ set-append_seam fs c [] x

-- a list is the others and its outermost element
pub record IsPlaced {X : Type 0} (side : Side) (es : List X) : Type 0 where
  pub rest : List X
  pub one : X
  pub is : es ≡ placed side rest one

last-of : {X : Type 0} (x : X) (xs : List X) → IsPlaced Back (x ∷ xs)
last-of x [] = record { rest = []; one = x; is = refl }
last-of x (y ∷ ys) = let r = last-of y ys in record { rest = x ∷ r.rest; one = r.one; is = ap (λ zs. x ∷ zs) r.is }

pub outermost-of : {X : Type 0} (side : Side) (x : X) (xs : List X) → IsPlaced side (x ∷ xs)
outermost-of Front x xs = record { rest = xs; one = x; is = refl }
outermost-of Back x xs = last-of x xs

pub All-rest_placed : {X : Type 0} (side : Side) (P : X → Type 0) (fs : List X) (c : X) → All P (placed side fs c) → All P fs
All-rest_placed Front P fs c all = λ k d h. let lt : suc k < length (c ∷ fs) = omega arith in all (suc k) d lt
All-rest_placed Back P fs c all = λ k d h. subst P (get_or_append_left fs (c ∷ []) d k h) (all k d (omega (arith, h, length-append fs (c ∷ []))))

pub All-one_placed : {X : Type 0} (side : Side) (P : X → Type 0) (fs : List X) (c : X) → All P (placed side fs c) → P c
All-one_placed Front P fs c all = all 0 c (omega arith)
All-one_placed Back P fs c all = subst P (get_or-append_seam fs c [] c) (all (length fs) c (omega (arith, length-append fs (c ∷ []))))

-- ---- Branches
branch_at : (k : Kind) (n more l : ℕ) (cs : Forest Form) → level_step k more ≡ suc l → n ≡ sum_by length_of (trees cs) → (let s : Shape = (record { kind = k; length = n; more = more }, cs) in s ≡ branch_over l (trees cs))
unfolding branch_over
branch_at Flat n more l cs at long = absurd (omega (arith, at))
branch_at External n more l cs at long = absurd (omega (arith, at))
branch_at Part n more l cs at long = absurd (omega (arith, at))
branch_at Sum n more l cs at long = absurd (omega (arith, at))
branch_at Branch n more l cs at long = let e : more ≡ l = omega (arith, at) in λ i. (record { kind = Branch; length = long i; more = e i }, sym (forest-trees cs) i)

pub branch-is : (l : ℕ) (m : Shape) → IsNode (suc l) m → m ≡ branch_over l (children m)
unfolding level
branch-is l m node = branch_at m.0.kind m.0.length m.0.more l m.1 node.at_level node.long

pub node-over : (l : ℕ) (es : List Shape) → 0 < length es → length es ≤ 6 → All (IsNode l) es → IsNode (suc l) (branch_over l es)
node-over l es some few all = record {
  at_level = level-over l es;
  long = rw edges-over (length-over l es);
  some = rw edges-over some;
  few = rw edges-over few;
  below = rw edges-over all;
}

-- a node above level 0, by its outermost edge and the others
pub record Opens (side : Side) (l : ℕ) (m : Shape) : Type 0 where
  pub rest : List Shape
  pub one : Shape
  pub is : m ≡ branch_over l (placed side rest one)
  pub few : length rest < 6
  pub all : All (IsNode l) rest
  pub node : IsNode l one

opens_at : (side : Side) (l : ℕ) (m : Shape) (es : List Shape) → m ≡ branch_over l es → 0 < length es → length es ≤ 6 → All (IsNode l) es → Opens side l m
opens_at side l m [] is some few all = absurd (omega arith)
opens_at side l m (e ∷ es) is some few all =
    let p = outermost-of side e es in
    let every : All (IsNode l) (placed side p.rest p.one) = subst (All (IsNode l)) p.is all in
    record {
      rest = p.rest;
      one = p.one;
      is = is ∙ ap (branch_over l) p.is;
      few = omega (arith, few, ap (λ (z : List Shape). length z) p.is, length-placed side p.rest p.one);
      all = All-rest_placed side (IsNode l) p.rest p.one every;
      node = All-one_placed side (IsNode l) p.rest p.one every;
    }

pub opens : (side : Side) (l : ℕ) (m : Shape) → IsNode (suc l) m → Opens side l m
opens side l m node = opens_at side l m (children m) (branch-is l m node) node.some node.few node.below

module _ (side : Side) where
  abbrev grows : ℕ → Shape → Shape → Option Shape
  grows l m x = grown side no_meeting l m x

  outermost-over : (l : ℕ) (fs : List Shape) (c : Shape) → outermost side (branch_over l (placed side fs c)) ≡ c
  outermost-over l fs c = ap (λ (zs : List Shape). get_or zs (outer side (length zs)) (branch_over l (placed side fs c))) (edges-over l (placed side fs c)) ∙ get-placed side fs c _

  grown-over : (l : ℕ) (fs : List Shape) (c x : Shape) → grows (suc l) (branch_over l (placed side fs c)) x ≡ grown_from side (branch_over l (placed side fs c)) (wrapped l x) (grows l c x)
  unfolding grown
  grown-over l fs c x = ap (λ (z : Shape). grown_from side (branch_over l (placed side fs c)) (wrapped l x) (grows l z x)) (outermost-over l fs c)

  with_edges-over : (l : ℕ) (es new : List Shape) → with_edges (branch_over l es) new ≡ branch_over l new
  with_edges-over l es new = let e : level (branch_over l es) - 1 ≡ l = omega (arith, level-over l es) in ap (λ (h : ℕ). branch_over h new) e

  pub grown-below : (l : ℕ) (fs : List Shape) (c x d : Shape) → grows l c x ≡ Some d → grows (suc l) (branch_over l (placed side fs c)) x ≡ Some (branch_over l (placed side fs d))
  grown-below l fs c x d is =
      let m = branch_over l (placed side fs c) in
      grown-over l fs c x ∙ ap (grown_from side m (wrapped l x)) is
      ∙ ap (λ (zs : List Shape). Some (with_edges m (set zs (outer side (length zs)) d))) (edges-over l (placed side fs c))
      ∙ ap (λ (zs : List Shape). Some (with_edges m zs)) (set-placed side fs c d)
      ∙ ap (λ (z : Shape). Some z) (with_edges-over l (placed side fs c) (placed side fs d))

  with_edge-over : (l : ℕ) (es : List Shape) (x : Shape) → with_edge side (branch_over l es) x ≡ cond (ltb (length es) 6) (Some (branch_over l (placed side es x))) None
  with_edge-over l es x =
      ap (λ (zs : List Shape). cond (ltb (length zs) 6) (Some (with_edges (branch_over l es) (placed side zs x))) None) (edges-over l es)
      ∙ ap (λ (z : Shape). cond (ltb (length es) 6) (Some z) None) (with_edges-over l es (placed side es x))

  pub grown-beside : (l : ℕ) (fs : List Shape) (c x : Shape) → grows l c x ≡ None → suc (length fs) < 6 → grows (suc l) (branch_over l (placed side fs c)) x ≡ Some (branch_over l (placed side (placed side fs c) (wrapped l x)))
  grown-beside l fs c x is few =
      let es = placed side fs c in
      grown-over l fs c x ∙ ap (grown_from side (branch_over l es) (wrapped l x)) is ∙ with_edge-over l es (wrapped l x)
      ∙ ap (λ (b : Bool). cond b (Some (branch_over l (placed side es (wrapped l x)))) None) (lt-ltb (length es) 6 (omega (arith, few, length-placed side fs c)))

  pub grown-full : (l : ℕ) (fs : List Shape) (c x : Shape) → grows l c x ≡ None → 6 ≤ suc (length fs) → grows (suc l) (branch_over l (placed side fs c)) x ≡ None
  grown-full l fs c x is many =
      let es = placed side fs c in
      grown-over l fs c x ∙ ap (grown_from side (branch_over l es) (wrapped l x)) is ∙ with_edge-over l es (wrapped l x)
      ∙ ap (λ (b : Bool). cond b (Some (branch_over l (placed side es (wrapped l x)))) None) (le-ltb (length es) 6 (omega (arith, many, length-placed side fs c)))

  -- ---- rooms
  pub room-over : (l : ℕ) (fs : List Shape) (c : Shape) → room_at side (suc l) (branch_over l (placed side fs c)) ≡ room_at side l c + (6 - suc (length fs)) * most_under l
  unfolding room_at
  room-over l fs c =
      let n : length (children (branch_over l (placed side fs c))) ≡ suc (length fs) = ap (λ (zs : List Shape). length zs) (edges-over l (placed side fs c)) ∙ length-placed side fs c in
      (λ i. room_at side l (outermost-over l fs c i) + (6 - n i) * most_under l)

  placed-one : (x : Shape) → placed side [] x ≡ x ∷ []
  placed-one x = one side
    where
      one : (s : Side) → placed s [] x ≡ x ∷ []
      one Front = refl
      one Back = refl

  placed-two : (x y : Shape) → placed side (x ∷ []) y ≡ placed side (placed side [] x) y
  placed-two x y = ap (λ (zs : List Shape). placed side zs y) (sym (placed-one x))

  wrapped-over : (l : ℕ) (x : Shape) → level x ≡ 0 → wrapped (suc l) x ≡ branch_over l (placed side [] (wrapped l x))
  unfolding wrapped
  wrapped-over l x at = (λ i. branch_over (at i + l) (sym (placed-one (wrapped l x)) i)) ∙ ap (λ (h : ℕ). branch_over h (placed side [] (wrapped l x))) (omega arith)

  pub room-wrapped : (l : ℕ) (x : Shape) → level x ≡ 0 → room_at side l (wrapped l x) + 1 ≡ most_under l
  unfolding room_at most_under
  room-wrapped zero x at = omega arith
  room-wrapped (suc l) x at =
      ap (λ (z : Shape). room_at side (suc l) z + 1) (wrapped-over l x at) ∙ omega (arith, room-over l [] (wrapped l x), room-wrapped l x at)

  pub wrapped-node : (l : ℕ) (x : Shape) → IsNode 0 x → IsNode l (wrapped l x)
  wrapped-node l x one =
      let at : level x ≡ 0 = level-node 0 x one in
      let is : level x + l ≡ l = omega (arith, at) in
      subst (λ k. IsNode k (wrapped l x)) is (IsNode-wrapped l x (subst (λ k. IsNode k x) (sym at) one))

  pub room-none_grown : (l : ℕ) (m x : Shape) → IsNode l m → room_at side l m ≡ 0 → grows l m x ≡ None
  unfolding grown room_at
  room-none_grown zero m x node none = refl
  room-none_grown (suc l) m x node none =
      let o = opens side l m node in
      let r : room_at side l o.one + (6 - suc (length o.rest)) * most_under l ≡ 0 = sym (room-over l o.rest o.one) ∙ (ap (room_at side (suc l)) (sym o.is) ∙ none) in
      ap (λ (z : Shape). grows (suc l) z x) o.is
      ∙ grown-full l o.rest o.one x (room-none_grown l o.one x o.node (omega (arith, r))) (room-none (suc (length o.rest)) (most_under l) (most-some l) (omega (arith, r)))

  -- a data edge finds room
  pub record Takes (l : ℕ) (m x : Shape) : Type 0 where
    pub new : Shape
    pub is : grows l m x ≡ Some new
    pub node : IsNode l new
    pub room : room_at side l new + 1 ≡ room_at side l m
    pub wide : length (children m) ≤ length (children new)

  length-over_placed : (l : ℕ) (fs : List Shape) (c : Shape) → length (children (branch_over l (placed side fs c))) ≡ suc (length fs)
  length-over_placed l fs c = ap (λ (zs : List Shape). length zs) (edges-over l (placed side fs c)) ∙ length-placed side fs c

  takes-below : (l : ℕ) (fs : List Shape) (c x : Shape) → length fs < 6 → All (IsNode l) fs → Takes l c x → Takes (suc l) (branch_over l (placed side fs c)) x
  takes-below l fs c x few all t = record {
    new = branch_over l (placed side fs t.new);
    is = grown-below l fs c x t.new t.is;
    node = node-over l (placed side fs t.new) (omega (arith, length-placed side fs t.new)) (omega (arith, few, length-placed side fs t.new)) (All-placed side (IsNode l) fs t.new all t.node);
    room = omega (arith, room-over l fs c, room-over l fs t.new, t.room);
    wide = omega (arith, length-over_placed l fs c, length-over_placed l fs t.new);
  }

  takes-beside : (l : ℕ) (fs : List Shape) (c x : Shape) → IsNode 0 x → suc (length fs) < 6 → All (IsNode l) fs → IsNode l c → room_at side l c ≡ 0 → Takes (suc l) (branch_over l (placed side fs c)) x
  takes-beside l fs c x one few all node none =
      let es = placed side fs c in
      let n = length-placed side fs c in
      let w = wrapped l x in
      record {
        new = branch_over l (placed side es w);
        is = grown-beside l fs c x (room-none_grown l c x node none) few;
        node = node-over l (placed side es w) (omega (arith, length-placed side es w)) (omega (arith, few, n, length-placed side es w)) (All-placed side (IsNode l) es w (All-placed side (IsNode l) fs c all node) (wrapped-node l x one));
        room =
            let r = room-over l es w in
            let s : (6 - suc (length es)) * most_under l ≡ (6 - suc (suc (length fs))) * most_under l = ap (λ (k : ℕ). (6 - suc k) * most_under l) n in
            omega (arith, r, s, room-over l fs c, none, room-wrapped l x (level-node 0 x one), room-one (suc (length fs)) (most_under l) few);
        wide = omega (arith, n, length-over_placed l fs c, length-over_placed l es w);
      }

  pub takes : (l : ℕ) (m x : Shape) → IsNode l m → IsNode 0 x → 0 < room_at side l m → Takes l m x
  unfolding room_at
  takes zero m x node one some = absurd (omega (arith, some))
  takes (suc l) m x node one some =
      let o = opens side l m node in
      let r : room_at side (suc l) m ≡ room_at side l o.one + (6 - suc (length o.rest)) * most_under l = ap (room_at side (suc l)) o.is ∙ room-over l o.rest o.one in
      subst (λ (z : Shape). Takes (suc l) z x) (sym o.is) (dite (ℕ_discrete (room_at side l o.one) 0)
      (λ none. dite (dec_lt (suc (length o.rest)) 6)
      (λ few. takes-beside l o.rest o.one x one few o.all o.node none)
      (λ many.
      let z : 6 - suc (length o.rest) ≡ 0 = omega arith in
      let q : (6 - suc (length o.rest)) * most_under l ≡ 0 * most_under l = ap (λ (k : ℕ). k * most_under l) z in
      absurd (omega (arith, r, none, some, q))))
      (λ more. takes-below l o.rest o.one x o.few o.all (takes l o.one x o.node one (omega arith))))

  taken-in : (l : ℕ) (m x : Shape) (t : Takes l m x) → taken_in side l m x ≡ t.new
  taken-in l m x t = ap (λ (o : Option Shape). unwrap_or o m) t.is

  -- ---- many
  All-tail : (x : Shape) (xs : List Shape) → All (IsNode 0) (x ∷ xs) → All (IsNode 0) xs
  All-tail x xs all = λ k d h. let lt : suc k < length (x ∷ xs) = omega arith in all (suc k) d lt

  All-head : (x : Shape) (xs : List Shape) → All (IsNode 0) (x ∷ xs) → IsNode 0 x
  All-head x xs all = all 0 x (omega arith)

  -- what a node is that has taken in data edges for which it had room
  pub record Fills (l : ℕ) (m : Shape) (xs : List Shape) : Type 0 where
    pub node : IsNode l (filled side l m xs)
    pub room : room_at side l (filled side l m xs) + length xs ≡ room_at side l m

  pub fills : (l : ℕ) (m : Shape) (xs : List Shape) → IsNode l m → All (IsNode 0) xs → length xs ≤ room_at side l m → Fills l m xs
  fills l m [] node all fits = record { node = node; room = omega arith }
  fills l m (x ∷ xs) node all fits =
      let t = takes l m x node (All-head x xs all) (omega arith) in
      let f = fills l t.new xs t.node (All-tail x xs all) (omega (arith, t.room, fits)) in
      let e = ap (λ (z : Shape). filled side l z xs) (taken-in l m x t) in
      record {
        node = subst (IsNode l) (sym e) f.node;
        room = omega (arith, ap (room_at side l) e, f.room, t.room);
      }

  pub filled-below : (l : ℕ) (fs : List Shape) (c : Shape) (xs : List Shape) → IsNode l c → All (IsNode 0) xs → length xs ≤ room_at side l c → filled side (suc l) (branch_over l (placed side fs c)) xs ≡ branch_over l (placed side fs (filled side l c xs))
  filled-below l fs c [] node all fits = refl
  filled-below l fs c (x ∷ xs) node all fits =
      let t = takes l c x node (All-head x xs all) (omega arith) in
      let m = branch_over l (placed side fs c) in
      let one : taken_in side (suc l) m x ≡ branch_over l (placed side fs t.new) = ap (λ (o : Option Shape). unwrap_or o m) (grown-below l fs c x t.new t.is) in
      ap (λ (z : Shape). filled side (suc l) z xs) one
      ∙ filled-below l fs t.new xs t.node (All-tail x xs all) (omega (arith, t.room, fits))
      ∙ ap (λ (z : Shape). branch_over l (placed side fs (filled side l z xs))) (sym (taken-in l c x t))

  filled-beside : (l : ℕ) (fs : List Shape) (c x : Shape) (xs : List Shape) → IsNode l c → room_at side l c ≡ 0 → suc (length fs) < 6 → filled side (suc l) (branch_over l (placed side fs c)) (x ∷ xs) ≡ filled side (suc l) (branch_over l (placed side (placed side fs c) (wrapped l x))) xs
  filled-beside l fs c x xs node none few =
      let m = branch_over l (placed side fs c) in
      ap (λ (o : Option Shape). filled side (suc l) (unwrap_or o m) xs) (grown-beside l fs c x (room-none_grown l c x node none) few)

  pub filled-append : (l : ℕ) (m : Shape) (xs ys : List Shape) → filled side l m (xs ++ ys) ≡ filled side l (filled side l m xs) ys
  filled-append l m xs ys = fold-append (λ (s x : Shape). taken_in side l s x) m xs ys

  -- ---- groups
  -- data edges of one group come under one node
  pub packs : (l : ℕ) (x : Shape) (xs : List Shape) → All (IsNode 0) (x ∷ xs) → length (x ∷ xs) ≤ most_under l → Fills l (wrapped l x) xs
  packs l x xs all fits =
      let one = All-head x xs all in
      fills l (wrapped l x) xs (wrapped-node l x one) (All-tail x xs all) (omega (arith, fits, room-wrapped l x (level-node 0 x one)))

  pub packed-node : (l : ℕ) (zs : List Shape) → 0 < length zs → All (IsNode 0) zs → length zs ≤ most_under l → IsNode l (packed side l zs)
  packed-node l [] some all fits = absurd (omega arith)
  packed-node l (x ∷ xs) some all fits = (packs l x xs all fits).node

  pub packed-room : (l : ℕ) (zs : List Shape) → 0 < length zs → All (IsNode 0) zs → length zs ≤ most_under l → room_at side l (packed side l zs) + length zs ≡ most_under l
  packed-room l [] some all fits = absurd (omega arith)
  packed-room l (x ∷ xs) some all fits = omega (arith, (packs l x xs all fits).room, room-wrapped l x (level-node 0 x (All-head x xs all)))

  filled-group : (l : ℕ) (fs : List Shape) (c x : Shape) (xs ys : List Shape) → IsNode l c → room_at side l c ≡ 0 → suc (length fs) < 6 → All (IsNode 0) (x ∷ xs) → length (x ∷ xs) ≤ most_under l
      → filled side (suc l) (branch_over l (placed side fs c)) (x ∷ (xs ++ ys)) ≡ filled side (suc l) (branch_over l (placed side (placed side fs c) (packed side l (x ∷ xs)))) ys
  filled-group l fs c x xs ys node none few all fits =
      let one = All-head x xs all in
      filled-beside l fs c x (xs ++ ys) node none few
      ∙ filled-append (suc l) _ xs ys
      ∙ ap (λ (z : Shape). filled side (suc l) z ys) (filled-below l (placed side fs c) (wrapped l x) xs (wrapped-node l x one) (All-tail x xs all) (omega (arith, fits, room-wrapped l x (level-node 0 x one))))

  laid-some : (l : ℕ) (es : List Shape) (xs : List Shape) → 0 < length es → laid side l es xs ≡ filled side (suc l) (branch_over l es) xs
  laid-some l [] xs some = absurd (omega arith)
  laid-some l (e ∷ es) xs some = refl

  pub laid-placed : (l : ℕ) (es : List Shape) (p : Shape) (xs : List Shape) → laid side l (placed side es p) xs ≡ filled side (suc l) (branch_over l (placed side es p)) xs
  laid-placed l es p xs = laid-some l (placed side es p) xs (omega (arith, length-placed side es p))

  pub laid-nil : (l : ℕ) (es : List Shape) → laid side l es [] ≡ branch_over l es
  laid-nil l [] = refl
  laid-nil l (e ∷ es) = refl

  laid-group_at : (l : ℕ) (es : List Shape) (x : Shape) (xs ys : List Shape) → room_outside side l es ≡ 0 → length es < 6 → All (IsNode l) es → All (IsNode 0) (x ∷ xs) → length (x ∷ xs) ≤ most_under l
      → laid side l es (x ∷ (xs ++ ys)) ≡ laid side l (placed side es (packed side l (x ∷ xs))) ys
  laid-group_at l [] x xs ys none few nodes all fits =
      let one = All-head x xs all in
      let at = level-node 0 x one in
      ap (λ (z : Shape). filled side (suc l) z (xs ++ ys)) (wrapped-over l x at)
      ∙ filled-append (suc l) _ xs ys
      ∙ ap (λ (z : Shape). filled side (suc l) z ys) (filled-below l [] (wrapped l x) xs (wrapped-node l x one) (All-tail x xs all) (omega (arith, fits, room-wrapped l x at)))
      ∙ sym (laid-placed l [] (packed side l (x ∷ xs)) ys)
  laid-group_at l (e ∷ es) x xs ys none few nodes all fits =
      let p = outermost-of side e es in
      let every : All (IsNode l) (placed side p.rest p.one) = subst (All (IsNode l)) p.is nodes in
      let far : room_at side l p.one ≡ 0 =
      ap (room_at side l) (sym (get-placed side p.rest p.one e)) ∙ (ap (λ (zs : List Shape). room_at side l (get_or zs (outer side (length zs)) e)) (sym p.is) ∙ none) in
      let n : length (e ∷ es) ≡ suc (length p.rest) = ap (λ (zs : List Shape). length zs) p.is ∙ length-placed side p.rest p.one in
      ap (λ (zs : List Shape). filled side (suc l) (branch_over l zs) (x ∷ (xs ++ ys))) p.is
      ∙ filled-group l p.rest p.one x xs ys (All-one_placed side (IsNode l) p.rest p.one every) far (omega (arith, few, n)) all fits
      ∙ ap (λ (zs : List Shape). filled side (suc l) (branch_over l (placed side zs (packed side l (x ∷ xs)))) ys) (sym p.is)
      ∙ sym (laid-placed l (e ∷ es) (packed side l (x ∷ xs)) ys)

  -- where the edges so far are full, the next group comes under a node beside them
  pub laid-group : (l : ℕ) (es zs ys : List Shape) → room_outside side l es ≡ 0 → length es < 6 → All (IsNode l) es → 0 < length zs → All (IsNode 0) zs → length zs ≤ most_under l
      → laid side l es (zs ++ ys) ≡ laid side l (placed side es (packed side l zs)) ys
  laid-group l es [] ys none few nodes some all fits = absurd (omega arith)
  laid-group l es (x ∷ xs) ys none few nodes some all fits = laid-group_at l es x xs ys none few nodes all fits

  room-outside_some : (l : ℕ) (es : List Shape) (d : Shape) → 0 < length es → room_outside side l es ≡ room_at side l (get_or es (outer side (length es)) d)
  room-outside_some l [] d some = absurd (omega arith)
  room-outside_some l (e ∷ es) d some =
      let p = outermost-of side e es in
      ap (λ (zs : List Shape). room_at side l (get_or zs (outer side (length zs)) e)) p.is
      ∙ ap (room_at side l) (get-placed side p.rest p.one e ∙ sym (get-placed side p.rest p.one d))
      ∙ ap (λ (zs : List Shape). room_at side l (get_or zs (outer side (length zs)) d)) (sym p.is)

  pub room-outside_placed : (l : ℕ) (es : List Shape) (p : Shape) → room_outside side l (placed side es p) ≡ room_at side l p
  room-outside_placed l es p =
      room-outside_some l (placed side es p) p (omega (arith, length-placed side es p)) ∙ ap (room_at side l) (get-placed side es p p)

  -- ---- new roots
  with_all-fits : (l : ℕ) (t : Shape) (xs : List Shape) → IsNode l t → All (IsNode 0) xs → length xs ≤ room_at side l t → with_all side t xs ≡ filled side l t xs
  with_all-fits l t [] node all fits = refl
  with_all-fits l t (x ∷ xs) node all fits =
      let one = All-head x xs all in
      let k = takes l t x node one (omega arith) in
      let d : level t - level x ≡ l = omega (arith, level-node l t node, level-node 0 x one) in
      let is : added side t x ≡ k.new =
      ap (λ (n : ℕ). unwrap_or (grows n t x) (branch_over (level t) (placed side (t ∷ []) (wrapped n x)))) d
      ∙ ap (λ (o : Option Shape). unwrap_or o (branch_over (level t) (placed side (t ∷ []) (wrapped l x)))) k.is in
      ap (λ (z : Shape). with_all side z xs) is
      ∙ with_all-fits l k.new xs k.node (All-tail x xs all) (omega (arith, k.room, fits))
      ∙ ap (λ (z : Shape). filled side l z xs) (sym (taken-in l t x k))

  added-full : (l : ℕ) (t x : Shape) → IsNode l t → IsNode 0 x → room_at side l t ≡ 0 → added side t x ≡ branch_over l (placed side (placed side [] t) (wrapped l x))
  added-full l t x node one none =
      let at = level-node l t node in
      let d : level t - level x ≡ l = omega (arith, at, level-node 0 x one) in
      ap (λ (n : ℕ). unwrap_or (grows n t x) (branch_over (level t) (placed side (t ∷ []) (wrapped n x)))) d
      ∙ ap (λ (o : Option Shape). unwrap_or o (branch_over (level t) (placed side (t ∷ []) (wrapped l x)))) (room-none_grown l t x node none)
      ∙ (λ i. branch_over (at i) (placed-two t (wrapped l x) i))

  pub lifted-over : (j : ℕ) (t : Shape) → wrapped (suc j) t ≡ branch_over (level t + j) (placed side [] (wrapped j t))
  unfolding wrapped
  lifted-over j t = ap (branch_over (level t + j)) (sym (placed-one (wrapped j t)))

  pub lifted-room : (j : ℕ) (t : Shape) → room_at side (level t + suc j) (wrapped (suc j) t) ≡ room_at side (level t + j) (wrapped j t) + 5 * most_under (level t + j)
  lifted-room j t =
      (λ i. room_at side (add-suc (level t) j i) (lifted-over j t i)) ∙ room-over (level t + j) [] (wrapped j t)

  lifted-one : (t : Shape) (xs : List Shape) → IsNode (level t) t → All (IsNode 0) xs → length xs ≤ room_at side (level t + 0) (wrapped 0 t) → with_all side t xs ≡ filled side (level t + 0) (wrapped 0 t) xs
  unfolding wrapped
  lifted-one t xs node all fits =
      let e : level t + 0 ≡ level t = omega arith in
      with_all-fits (level t) t xs node all (omega (arith, fits, ap (λ (l : ℕ). room_at side l t) e)) ∙ ap (λ (l : ℕ). filled side l t xs) (sym e)

  -- the first of them fill the tree, and the rest stand beside it
  lifted-step : (j : ℕ) (t t1 : Shape) (ys : List Shape) (z : Shape) (zs : List Shape) → let l : ℕ = level t + j in
      IsNode (level t) t → IsNode l t1 → All (IsNode 0) ys → All (IsNode 0) (z ∷ zs) → with_all side t ys ≡ t1 → filled side l (wrapped j t) ys ≡ t1 → length ys ≤ room_at side l (wrapped j t) → room_at side l t1 ≡ 0 → length (z ∷ zs) ≤ 5 * most_under l
      → with_all side t (ys ++ z ∷ zs) ≡ filled side (level t + suc j) (wrapped (suc j) t) (ys ++ z ∷ zs)
  lifted-step j t t1 ys z zs node node1 ally allz is same fits none few =
      let l : ℕ = level t + j in
      let one = All-head z zs allz in
      let b = branch_over l (placed side (placed side [] t1) (wrapped l z)) in
      let n0 = length-placed side [] t1 in
      let n = length-placed side (placed side [] t1) (wrapped l z) in
      let nodeb : IsNode (suc l) b = node-over l _ (omega (arith, n)) (omega (arith, n, n0)) (All-placed side (IsNode l) (placed side [] t1) (wrapped l z) (All-placed side (IsNode l) [] t1 (All-nil _) node1) (wrapped-node l z one)) in
      let k : (6 - suc (length (placed side [] t1))) * most_under l ≡ 4 * most_under l = ap (λ (q : ℕ). (6 - suc q) * most_under l) n0 in
      let roomb : length zs ≤ room_at side (suc l) b = omega (arith, room-over l (placed side [] t1) (wrapped l z), room-wrapped l z (level-node 0 z one), k, few) in
      let left : with_all side t (ys ++ z ∷ zs) ≡ filled side (suc l) b zs =
      fold-append (λ (s x : Shape). added side s x) t ys (z ∷ zs)
      ∙ ap (λ (s : Shape). with_all side s (z ∷ zs)) is
      ∙ ap (λ (s : Shape). with_all side s zs) (added-full l t1 z node1 one none)
      ∙ with_all-fits (suc l) b zs nodeb (All-tail z zs allz) roomb in
      let right : filled side (suc l) (branch_over l (placed side [] (wrapped j t))) (ys ++ z ∷ zs) ≡ filled side (suc l) b zs =
      filled-append (suc l) (branch_over l (placed side [] (wrapped j t))) ys (z ∷ zs)
      ∙ ap (λ (s : Shape). filled side (suc l) s (z ∷ zs)) (filled-below l [] (wrapped j t) ys (IsNode-wrapped j t node) ally fits ∙ ap (λ (s : Shape). branch_over l (placed side [] s)) same)
      ∙ filled-beside l [] t1 z zs node1 none (omega arith) in
      left ∙ sym right ∙ (λ i. filled side (sym (add-suc (level t) j) i) (sym (lifted-over j t) i) (ys ++ z ∷ zs))

  All-take : (xs : List Shape) (n : ℕ) → All (IsNode 0) xs → All (IsNode 0) (take n xs)
  All-take xs zero all = All-nil _
  All-take [] (suc n) all = All-nil _
  All-take (x ∷ xs) (suc n) all = All-cons (IsNode 0) x (take n xs) (All-head x xs all) (All-take xs n (All-tail x xs all))

  All-drop : (xs : List Shape) (n : ℕ) → All (IsNode 0) xs → All (IsNode 0) (drop n xs)
  All-drop xs zero all = all
  All-drop [] (suc n) all = All-nil _
  All-drop (x ∷ xs) (suc n) all = All-drop xs n (All-tail x xs all)

  -- data edges added one after another come under as many new roots as they need, and these can be laid first
  pub with_all-lifted : (j : ℕ) (t : Shape) (xs : List Shape) → IsNode (level t) t → All (IsNode 0) xs → IsLift side t (length xs) j → with_all side t xs ≡ filled side (level t + j) (wrapped j t) xs
  with_all-lifted zero t xs node all lift = lifted-one t xs node all lift.room
  with_all-lifted (suc j) t xs node all lift =
      let l : ℕ = level t + j in
      let m : ℕ = room_at side l (wrapped j t) in
      let more : m < length xs = lift.least j refl in
      let long : length (take m xs) ≡ m = omega (arith, length-take m xs, more) in
      let is = with_all-lifted j t (take m xs) node (All-take xs m all) (lift-below j t (take m xs) long) in
      let f = fills l (wrapped j t) (take m xs) (IsNode-wrapped j t node) (All-take xs m all) (omega (arith, long)) in
      go (take m xs) (drop m xs) (take-append-drop m xs) (All-take xs m all) (All-drop xs m all) (omega (arith, length-drop m xs, more)) is f long (omega (arith, length-drop m xs, lift.room, lifted-room j t))
    where
      lift-below : (i : ℕ) (t : Shape) (ys : List Shape) → length ys ≡ room_at side (level t + i) (wrapped i t) → IsLift side t (length ys) i
      lift-below i t ys e = record {
        room = omega (arith, e);
        least = λ h is.
            let r = lifted-room h t in
            let q : room_at side (level t + i) (wrapped i t) ≡ room_at side (level t + suc h) (wrapped (suc h) t) = ap (λ (k : ℕ). room_at side (level t + k) (wrapped k t)) is in
            omega (arith, e, q, r, most-some (level t + h));
      }

      go : (ys zs : List Shape) → ys ++ zs ≡ xs → All (IsNode 0) ys → All (IsNode 0) zs → 0 < length zs → with_all side t ys ≡ filled side (level t + j) (wrapped j t) ys → Fills (level t + j) (wrapped j t) ys → length ys ≡ room_at side (level t + j) (wrapped j t) → length zs ≤ 5 * most_under (level t + j)
          → with_all side t xs ≡ filled side (level t + suc j) (wrapped (suc j) t) xs
      go ys [] cut ally allz some is f long few = absurd (omega arith)
      go ys (z ∷ zs) cut ally allz some is f long few =
          subst (λ (ws : List Shape). with_all side t ws ≡ filled side (level t + suc j) (wrapped (suc j) t) ws) cut
          (lifted-step j t (filled side (level t + j) (wrapped j t) ys) ys z zs node f.node ally allz is refl (omega (arith, long)) (omega (arith, f.room, long)) few)

  -- ---- the whole
  added-takes : (l : ℕ) (t x : Shape) → IsNode l t → IsNode 0 x → (k : Takes l t x) → added side t x ≡ k.new
  added-takes l t x node one k =
      let d : level t - level x ≡ l = omega (arith, level-node l t node, level-node 0 x one) in
      ap (λ (n : ℕ). unwrap_or (grows n t x) (branch_over (level t) (placed side (t ∷ []) (wrapped n x)))) d
      ∙ ap (λ (o : Option Shape). unwrap_or o (branch_over (level t) (placed side (t ∷ []) (wrapped l x)))) k.is

  added-wide_at : (l : ℕ) (t x : Shape) → IsNode l t → IsNode 0 x → (0 < l → 2 ≤ length (children t)) → 2 ≤ length (children (added side t x))
  unfolding room_at
  added-wide_at zero t x node one wide =
      let e = ap (λ (z : Shape). length (children z)) (added-full zero t x node one refl) in
      omega (arith, e, length-over_placed zero (placed side [] t) (wrapped zero x), length-placed side [] t)
  added-wide_at (suc l) t x node one wide = dite (ℕ_discrete (room_at side (suc l) t) 0)
      (λ none. let e = ap (λ (z : Shape). length (children z)) (added-full (suc l) t x node one none) in
      omega (arith, e, length-over_placed (suc l) (placed side [] t) (wrapped (suc l) x), length-placed side [] t))
      (λ more. let k = takes (suc l) t x node one (omega arith) in
      let e = ap (λ (z : Shape). length (children z)) (added-takes (suc l) t x node one k) in
      omega (arith, e, k.wide, wide (omega arith)))

  no-meeting : (x : Shape) → Meets no_meeting x
  no-meeting x = record { node = λ m c e n. absurd (cc); all = λ m c e n. absurd (cc) }

  pub added-rooted : (t x : Shape) → IsRooted t → IsNode 0 x → IsRooted (added side t x)
  added-rooted t x root one =
      let at = level-node 0 x one in
      let a = added_by-adds side no_meeting t x root.node (subst (λ (l : ℕ). IsNode l x) (sym at) one) (no-meeting x) (omega (arith, at)) in
      record { node = a.node; wide = λ some. added-wide_at (level t) t x root.node one root.wide }

  pub with_all-rooted : (t : Shape) (xs : List Shape) → IsRooted t → All (IsNode 0) xs → IsRooted (with_all side t xs)
  with_all-rooted t [] root all = root
  with_all-rooted t (x ∷ xs) root all = with_all-rooted (added side t x) xs (added-rooted t x root (All-head x xs all)) (All-tail x xs all)

  -- so high is a tree then
  pub with_all-level : (j : ℕ) (t : Shape) (xs : List Shape) → IsNode (level t) t → All (IsNode 0) xs → IsLift side t (length xs) j → level (with_all side t xs) ≡ level t + j
  with_all-level j t xs node all lift =
      ap level (with_all-lifted j t xs node all lift) ∙ level-node (level t + j) _ (fills (level t + j) (wrapped j t) xs (IsNode-wrapped j t node) all lift.room).node

  -- the lengths of what was added are added
  pub with_all-length : (t : Shape) (xs : List Shape) → IsRooted t → All (IsNode 0) xs → length_of (with_all side t xs) ≡ length_of t + sum_by length_of xs
  with_all-length t [] root all = omega arith
  with_all-length t (x ∷ xs) root all =
      let one = All-head x xs all in
      let at = level-node 0 x one in
      let a = added_by-adds side no_meeting t x root.node (subst (λ (l : ℕ). IsNode l x) (sym at) one) (no-meeting x) (omega (arith, at)) in
      omega (arith, with_all-length (added side t x) xs (added-rooted t x root one) (All-tail x xs all), a.all, sum_by-append length_of (x ∷ []) xs)

  -- ---- how high a tree becomes
  rooms-le : (k j : ℕ) (t : Shape) → room_at side (level t + j) (wrapped j t) ≤ room_at side (level t + (k + j)) (wrapped (k + j) t)
  rooms-le zero j t = let e : j ≡ 0 + j = omega arith in omega (arith, ap (λ (i : ℕ). room_at side (level t + i) (wrapped i t)) e)
  rooms-le (suc k) j t =
      let e : suc k + j ≡ suc (k + j) = omega arith in
      omega (arith, rooms-le k j t, lifted-room (k + j) t, ap (λ (i : ℕ). room_at side (level t + i) (wrapped i t)) e)

  find-lift : (k j n : ℕ) (t : Shape) → n ≤ k + room_at side (level t + j) (wrapped j t) → ((i : ℕ) → j ≡ suc i → room_at side (level t + i) (wrapped i t) < n) → (h : ℕ) × IsLift side t n h
  find-lift zero j n t enough least = (j, record { room = omega (arith, enough); least = least })
  find-lift (suc k) j n t enough least = dite (dec_lt (room_at side (level t + j) (wrapped j t)) n)
      (λ less. find-lift k (suc j) n t (omega (arith, enough, lifted-room j t, most-some (level t + j)))
      (λ i is. let same : i ≡ j = omega (arith, is) in omega (arith, less, ap (λ (h : ℕ). room_at side (level t + h) (wrapped h t)) same)))
      (λ more. (j, record { room = omega arith; least = least }))

  lift-above : (n j h : ℕ) (t : Shape) → room_at side (level t + j) (wrapped j t) < n → IsLift side t n h → j < h
  lift-above n j h t less lift = dite (dec_lt j h)
      (λ lt. lt)
      (λ ge. let e : (j - h) + h ≡ j = omega arith in
      absurd (omega (arith, less, lift.room, rooms-le (j - h) h t, ap (λ (i : ℕ). room_at side (level t + i) (wrapped i t)) e)))

  -- what has no room under j new roots gets more of them
  pub with_all-high : (j : ℕ) (t : Shape) (xs : List Shape) → IsNode (level t) t → All (IsNode 0) xs → room_at side (level t + j) (wrapped j t) < length xs → level t + j < level (with_all side t xs)
  with_all-high j t xs node all less =
      let f = find-lift (length xs) 0 (length xs) t (omega arith) (λ i is. absurd (omega (arith, is))) in
      omega (arith, with_all-level f.0 t xs node all f.1, lift-above (length xs) j f.0 t less f.1)
