-- What the rules by which a node is added keep: the length, the level and that a tree is well formed.
use Rattle.std.proofs.Common.{ℕ, zero, suc, ◌≡◌, ◌+◌, ◌-◌, ◌<◌, ◌≤◌, Bool, true, false, cond, ltb, List, [], ◌∷◌, length, sum_by, refl, sym, ap, subst, ◌∙◌, get_or, set, Option, Some, None, arith}
use Rattle.std.specs.List.{All}
use Rattle.std.specs.Prelude.{unwrap_or}
use Rattle.std.proofs.lemmas.Bool.{ltb-true}
use Rattle.std.proofs.lemmas.List.{length-set, length-append}
use Rattle.std.proofs.lemmas.List.Sums.{sum_by-set, get_or-le-sum_by}
use Rattle.std.proofs.lemmas.List.Elements.{All-set, All-append, All-get_or, All-cons, All-nil}
use Rattle.std.proofs.Math.Numerals.{add-one}
use Rattle.std.proofs.Math.Nat.{add-suc, add-zero}
use Rattle.std.proofs.lemmas.Grind.{common_steps}
use Rattle.node_forest.specs.declared.kind.Kind.{Kind}
use Rattle.node_forest.specs.declared.kind.Kind.TheVariants.{Flat, External, Part, Sum, Branch}
use Rattle.node_forest.specs.declared.side.Side.{Side}
use Rattle.node_forest.specs.declared.side.Side.TheVariants.{Front, Back}
use Rattle.node_forest.specs.Forest.{Forest, empty, grow, children}
use Rattle.node_forest.proofs.Maps.{trees-forest}
use Rattle.tree_shapes.specs.Shape.{Form, Shape, level, branch_over, length_of, IsData, IsPart, IsNode}
use Rattle.tree_shapes.proofs.ShapeLaws.{level-node}
use Rattle.tree_shapes.specs.Growth.{placed, outer, outermost, with_edges, wrapped, with_edge, grown_from, grown, added_by}

pub level-over : (h : ℕ) (es : List Shape) → level (branch_over h es) ≡ suc h
unfolding level branch_over
level-over h es = add-one h

pub edges-over : (h : ℕ) (es : List Shape) → children (branch_over h es) ≡ es
unfolding branch_over
edges-over h es = trees-forest es

pub length-over : (h : ℕ) (es : List Shape) → length_of (branch_over h es) ≡ sum_by length_of es
unfolding branch_over
length-over h es = refl

pub length-placed : {X : Type 0} (side : Side) (es : List X) (x : X) → length (placed side es x) ≡ suc (length es)
length-placed Front es x = refl
length-placed Back es x = simp length-append (omega arith)

pub sum-placed : (side : Side) (f : Shape → ℕ) (es : List Shape) (x : Shape) → sum_by f (placed side es x) ≡ sum_by f es + f x
sum-placed Front f es x = grind (arith, common_steps)
sum-placed Back f es x = grind (arith, common_steps)

pub All-placed : {X : Type 0} (side : Side) (P : X → Type 0) (es : List X) (x : X) → All P es → P x → All P (placed side es x)
All-placed Front P es x all one = All-cons P x es one all
All-placed Back P es x all one = All-append P es (x ∷ []) all (All-cons P x [] one (All-nil P))

pub outer-lt : (side : Side) (n : ℕ) → 0 < n → outer side n < n
outer-lt Front n h = h
outer-lt Back n h = omega arith

pub if_some : {X : Type 0} (b : Bool) (x c : X) → cond b (Some x) None ≡ Some c → (b ≡ true) × (x ≡ c)
if_some true x c e = (refl, cc)
if_some false x c e = absurd (cc)

-- what holds of m at a level, with other edges
pub IsNode-with_edges : (h : ℕ) (m : Shape) (es : List Shape) → level m ≡ suc h → 0 < length es → length es ≤ 6 → All (IsNode h) es → IsNode (suc h) (with_edges m es)
IsNode-with_edges h m es at some few all = record {
  at_level = level-over (level m - 1) es ∙ omega arith;
  long = rw edges-over (length-over (level m - 1) es);
  some = rw edges-over some;
  few = rw edges-over few;
  below = rw edges-over all;
}

pub level-wrapped : (d : ℕ) (x : Shape) → level (wrapped d x) ≡ level x + d
unfolding wrapped
level-wrapped zero x = omega arith
level-wrapped (suc d) x = level-over _ _ ∙ sym (add-suc (level x) d)

pub IsNode-wrapped : (d : ℕ) (x : Shape) → IsNode (level x) x → IsNode (level x + d) (wrapped d x)
unfolding wrapped
IsNode-wrapped zero x h = rw add-zero h
IsNode-wrapped (suc d) x h = rw add-suc (record {
  at_level = level-over _ _;
  long = rw edges-over (length-over _ _);
  some = rw edges-over (omega arith);
  few = rw edges-over (omega arith);
  below = rw edges-over (All-cons (IsNode (level x + d)) _ [] (IsNode-wrapped d x h) (All-nil _));
})

pub length-wrapped : (d : ℕ) (x : Shape) → length_of (wrapped d x) ≡ length_of x
unfolding wrapped
length-wrapped zero x = refl
length-wrapped (suc d) x = length-over _ _ ∙ omega (arith, length-wrapped d x)

-- what a meeting place promises
pub record Meets (meet : Shape → Option Shape) (x : Shape) : Type 0 where
  pub node : (m c : Shape) → meet m ≡ Some c → IsNode (level x) m → IsNode (level x) c
  pub all : (m c : Shape) → meet m ≡ Some c → IsNode (level x) m → length_of c ≡ length_of m + length_of x

pub IsNode-with_edge : (side : Side) (h : ℕ) (m x c : Shape) → IsNode (suc h) m → IsNode h x → with_edge side m x ≡ Some c → IsNode (suc h) c
IsNode-with_edge side h m x c node one e =
    let p = if_some (ltb (length (children m)) 6) (with_edges m (placed side (children m) x)) c e in
    let room = ltb-true _ _ p.0 in
    let long = length-placed side (children m) x in
    subst (IsNode (suc h)) p.1 (IsNode-with_edges h m _ node.at_level (omega arith) (omega arith) (All-placed side (IsNode h) (children m) x node.below one))

pub length-with_edge : (side : Side) (h : ℕ) (m x c : Shape) → IsNode (suc h) m → with_edge side m x ≡ Some c → length_of c ≡ length_of m + length_of x
length-with_edge side h m x c node e =
    let p = if_some (ltb (length (children m)) 6) (with_edges m (placed side (children m) x)) c e in
    ap length_of (sym p.1) ∙ length-over _ _ ∙ sum-placed side length_of (children m) x ∙ ap (λ n. n + length_of x) (sym (node.long))

-- c stands where m stood, with x in it
pub record Grows (l : ℕ) (m x c : Shape) : Type 0 where
  pub node : IsNode l c
  pub all : length_of c ≡ length_of m + length_of x

module _ (side : Side) (meet : Shape → Option Shape) (x : Shape) (one : IsNode (level x) x) (meets : Meets meet x) where
  -- one level further up, by what the level below gave
  above : (d : ℕ) (m c : Shape) (o : Option Shape) → IsNode (suc (level x + d)) m
      → ((g : Shape) → o ≡ Some g → Grows (level x + d) (outermost side m) x g)
      → grown_from side m (wrapped d x) o ≡ Some c → Grows (suc (level x + d)) m x c
  above d m c (Some g) node below e =
      let at = outer side (length (children m)) in
      let within = outer-lt side (length (children m)) node.some in
      let r = below g refl in
      let q : with_edges m (set (children m) at g) ≡ c = cc in
      record {
        node = subst (IsNode (suc (level x + d))) q (IsNode-with_edges _ m _ node.at_level (rw length-set node.some) (rw length-set node.few) (All-set (IsNode (level x + d)) (children m) at g r.node node.below));
        all = ap length_of (sym q) ∙ length-over _ _ ∙ omega (arith, sum_by-set length_of (children m) at g m within, r.all, node.long);
      }
  above d m c None node below e = record {
    node = IsNode-with_edge side _ m (wrapped d x) c node (IsNode-wrapped d x one) e;
    all = length-with_edge side _ m (wrapped d x) c node e ∙ ap (λ n. length_of m + n) (length-wrapped d x);
  }

  pub outermost-node : (l : ℕ) (m : Shape) → IsNode (suc l) m → IsNode l (outermost side m)
  outermost-node l m node = All-get_or (IsNode l) (children m) (outer side (length (children m))) m (outer-lt side _ node.some) node.below

  pub grown_grows : (d : ℕ) (m c : Shape) → IsNode (level x + d) m → grown side meet d m x ≡ Some c → Grows (level x + d) m x c
  unfolding grown
  grown_grows zero m c h e =
      let h' = rw add-zero at h in
      rw add-zero (record { node = meets.node m c e h'; all = meets.all m c e h' })
  grown_grows (suc d) m c h e =
      let node = rw add-suc at h in
      rw add-suc (above d m c (grown side meet d (outermost side m) x) node (λ g is. grown_grows d (outermost side m) g (outermost-node _ m node) is) e)

-- what every rule keeps: a tree that is well formed, at most one level higher, with all that was added
pub record Adds (t x c : Shape) : Type 0 where
  pub node : IsNode (level c) c
  pub all : length_of c ≡ length_of t + length_of x
  pub no_lower : level t ≤ level c
  pub rises : level c ≤ level t + 1

module _ (side : Side) (meet : Shape → Option Shape) (t x : Shape) (tree : IsNode (level t) t) (one : IsNode (level x) x) (meets : Meets meet x) (no_higher : level x ≤ level t) where
  added_at : (d : ℕ) → level x + d ≡ level t → (o : Option Shape) → grown side meet d t x ≡ o
      → Adds t x (unwrap_or o (branch_over (level t) (placed side (t ∷ []) (wrapped d x))))
  added_at d e (Some c) is =
      let tree' = subst (λ l. IsNode l t) (sym e) tree in
      let g = grown_grows side meet x one meets d t c tree' is in
      let at = level-node (level x + d) c g.node in
      record { node = subst (λ l. IsNode l c) (sym at) g.node; all = g.all; no_lower = omega arith; rises = omega arith }
  added_at d e None is =
      let root = branch_over (level t) (placed side (t ∷ []) (wrapped d x)) in
      let up = level-over (level t) (placed side (t ∷ []) (wrapped d x)) in
      let two = length-placed side (t ∷ []) (wrapped d x) in
      let w = subst (λ l. IsNode l (wrapped d x)) e (IsNode-wrapped d x one) in
      let node : IsNode (suc (level t)) root = record {
        at_level = up;
        long = rw edges-over (length-over _ _);
        some = rw edges-over (omega arith);
        few = rw edges-over (omega arith);
        below = rw edges-over (All-placed side (IsNode (level t)) (t ∷ []) (wrapped d x) (All-cons (IsNode (level t)) t [] tree (All-nil _)) w);
      } in
      record {
        node = subst (λ l. IsNode l root) (sym up) node;
        all = length-over _ _ ∙ sum-placed side length_of (t ∷ []) (wrapped d x) ∙ omega (arith, length-wrapped d x);
        no_lower = omega arith;
        rises = omega arith;
      }

  pub added_by-adds : Adds t x (added_by meet side t x)
  added_by-adds = added_at (level t - level x) (omega arith) (grown side meet (level t - level x) t x) refl

-- no node is empty
part-some : (f : Form) (cs : Forest Form) → IsPart f cs → 0 < f.length
part-some f empty d = absurd d
part-some f (grow c cs empty) d = d.some
part-some f (grow c cs (grow b bs rest)) d = absurd d

data-some : (k : Kind) (s : Shape) → IsData k s → 0 < length_of s
data-some Flat s d = d.some
data-some External s d = d.some
data-some Part s d = part-some s.0 s.1 d
data-some Sum s d = absurd d
data-some Branch s d = absurd d

pub node-some : (l : ℕ) (s : Shape) → IsNode l s → 0 < length_of s
node-some zero s h = data-some s.0.kind s h
node-some (suc l) s h = omega (arith, get_or-le-sum_by length_of (children s) 0 s h.some, node-some l (get_or (children s) 0 s) (h.below 0 s h.some), h.long)
