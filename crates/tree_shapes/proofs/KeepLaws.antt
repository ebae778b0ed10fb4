-- A range of a tree: which edges it touches, what is well formed then, how long it is, and what is kept of what was kept.
use Rattle.std.proofs.Common.{ℕ, zero, suc, ◌≡◌, ◌+◌, ◌-◌, ◌<◌, ◌≤◌, Bool, true, false, cond, leb, eqb, List, [], ◌∷◌, length, sum_by, refl, sym, ap, subst, ◌∙◌, arith, eq-eqb, ne_eqb}
use Rattle.std.specs.List.{All}
use Rattle.std.specs.Prelude.{Contains}
use Rattle.std.proofs.lemmas.Bool.{le-leb, lt-leb}
use Rattle.std.proofs.lemmas.List.Elements.{All-cons, All-nil}
use Rattle.std.proofs.lemmas.List.Sums.{sum_by-cons}
use mathlib.Core.Logic.{dite}
use native.Mathlib.Decide.{ℕ_discrete, dec_lt}
use Rattle.node_forest.specs.declared.kind.Kind.{Kind}
use Rattle.node_forest.specs.declared.kind.Kind.TheVariants.{Flat, External, Part, Sum, Branch}
use Rattle.node_forest.specs.Forest.{Forest, empty, grow, children}
use Rattle.tree_shapes.specs.Growth.{with_edges}
use Rattle.tree_shapes.specs.Keep.{part_step, part_of, shortened_step, shortened_of, touched, keep_by}
use Rattle.tree_shapes.specs.Shape.{Form, Shape, length_of, capacities, IsData, IsNode, IsPart, IsSource}
use Rattle.tree_shapes.proofs.GrowthLaws.{length-over, IsNode-with_edges}

pub if_true : {X : Type 0} (b : Bool) (x y : X) → b ≡ true → cond b x y ≡ x
if_true true x y e = refl
if_true false x y e = absurd (cc)

pub if_false : {X : Type 0} (b : Bool) (x y : X) → b ≡ false → cond b x y ≡ y
if_false true x y e = absurd (cc)
if_false false x y e = refl

-- ---- data edges that are cut
-- a cut of a well formed data edge is one, and has the length that is asked for
pub record CutsData (cut : Shape → ℕ → ℕ → Shape) : Type 0 where
  pub node : (s : Shape) (start n : ℕ) → IsNode 0 s → 0 < n → start + n ≤ length_of s → IsNode 0 (cut s start n)
  pub long : (s : Shape) (start n : ℕ) → length_of (cut s start n) ≡ n
  pub whole : (s : Shape) (start n : ℕ) → n ≡ length_of s → cut s start n ≡ s

step-long : (k : Kind) (s : Shape) (start n : ℕ) → length_of (part_step k s start n) ≡ n
step-long Flat s start n = refl
step-long External s start n = refl
step-long Part s start n = refl
step-long Sum s start n = refl
step-long Branch s start n = refl

part-part : (m : ℕ) (f : Form) (cs : Forest Form) (start n : ℕ) → IsPart f cs → 0 < n → start + n ≤ f.length → n < f.length → m ≡ f.more + start → IsPart (record { kind = Part; length = n; more = m }) cs
part-part m f empty start n d some fits less e = absurd d
part-part m f (grow c cs empty) start n d some fits less e = record { some = some; within = omega (arith, d.within, fits, e); less = omega (arith, less, d.less); source = d.source }
part-part m f (grow c cs (grow b bs rest)) start n d some fits less e = absurd d

step-node : (k : Kind) (s : Shape) (start n : ℕ) → s.0.kind ≡ k → IsData k s → 0 < n → start + n ≤ length_of s → n < length_of s → IsNode 0 (part_step k s start n)
step-node Flat s start n is d some fits less = record { some = some; within = fits; less = less; source = subst (λ (k : Kind). IsSource k s.0) (sym is) d }
step-node External s start n is d some fits less = record { some = some; within = fits; less = less; source = subst (λ (k : Kind). IsSource k s.0) (sym is) d }
step-node Part s start n is d some fits less = part-part (s.0.more + start) s.0 s.1 start n d some fits less refl
step-node Sum s start n is d some fits less = absurd d
step-node Branch s start n is d some fits less = absurd d

pub part-whole : (s : Shape) (start n : ℕ) → n ≡ length_of s → part_of s start n ≡ s
part-whole s start n e = if_true (eqb n (length_of s)) s (part_step s.0.kind s start n) (eq-eqb n (length_of s) e)

pub part-cut : (s : Shape) (start n : ℕ) → (n ≡ length_of s → ⊥) → part_of s start n ≡ part_step s.0.kind s start n
part-cut s start n ne = if_false (eqb n (length_of s)) s (part_step s.0.kind s start n) (ne_eqb n (length_of s) ne)

pub parts-cut : CutsData part_of
parts-cut = record {
  node = λ s start n node some fits. dite (ℕ_discrete n (length_of s))
      (λ e. subst (IsNode 0) (sym (part-whole s start n e)) node)
      (λ ne. subst (IsNode 0) (sym (part-cut s start n ne)) (step-node s.0.kind s start n refl node some fits (omega (arith, ne, fits))));
  long = λ s start n. dite (ℕ_discrete n (length_of s))
      (λ e. ap length_of (part-whole s start n e) ∙ sym e)
      (λ ne. ap length_of (part-cut s start n ne) ∙ step-long s.0.kind s start n);
  whole = part-whole;
}

-- ---- flats that are shortened
short-long : (k : Kind) (s : Shape) (n : ℕ) → length_of (shortened_step k s n) ≡ n
short-long Flat s n = refl
short-long External s n = refl
short-long Part s n = refl
short-long Sum s n = refl
short-long Branch s n = refl

short-node : (k : Kind) (s : Shape) (n : ℕ) → s.0.kind ≡ k → IsData k s → 0 < n → n < length_of s → IsNode 0 (shortened_step k s n)
short-node Flat s n is d some less =
    let same : s.0.more + length_of s ≡ (s.0.more + (length_of s - n)) + n = omega (arith, less) in
    record { some = some; capacity = subst (λ (c : ℕ). Contains capacities c) same d.capacity }
short-node External s n is d some less = step-node External s 0 n is d some (omega (arith, less)) less
short-node Part s n is d some less = step-node Part s 0 n is d some (omega (arith, less)) less
short-node Sum s n is d some less = absurd d
short-node Branch s n is d some less = absurd d

abbrev cut_so : Shape → ℕ → ℕ → Shape
cut_so s start n = cond (eqb start 0) (shortened_step s.0.kind s n) (part_step s.0.kind s start n)

short-whole : (s : Shape) (start n : ℕ) → n ≡ length_of s → shortened_of s start n ≡ s
short-whole s start n e = if_true (eqb n (length_of s)) s (cut_so s start n) (eq-eqb n (length_of s) e)

short-cut : (s : Shape) (start n : ℕ) → (n ≡ length_of s → ⊥) → start ≡ 0 → shortened_of s start n ≡ shortened_step s.0.kind s n
short-cut s start n ne z = if_false (eqb n (length_of s)) s (cut_so s start n) (ne_eqb n (length_of s) ne) ∙ if_true (eqb start 0) _ _ (eq-eqb start 0 z)

short-later : (s : Shape) (start n : ℕ) → (n ≡ length_of s → ⊥) → (start ≡ 0 → ⊥) → shortened_of s start n ≡ part_step s.0.kind s start n
short-later s start n ne nz = if_false (eqb n (length_of s)) s (cut_so s start n) (ne_eqb n (length_of s) ne) ∙ if_false (eqb start 0) _ _ (ne_eqb start 0 nz)

pub shortened-cut : CutsData shortened_of
shortened-cut = record {
  node = λ s start n node some fits. dite (ℕ_discrete n (length_of s))
      (λ e. subst (IsNode 0) (sym (short-whole s start n e)) node)
      (λ ne. dite (ℕ_discrete start 0)
      (λ z. subst (IsNode 0) (sym (short-cut s start n ne z)) (short-node s.0.kind s n refl node some (omega (arith, ne, fits))))
      (λ nz. subst (IsNode 0) (sym (short-later s start n ne nz)) (step-node s.0.kind s start n refl node some fits (omega (arith, ne, fits)))));
  long = λ s start n. dite (ℕ_discrete n (length_of s))
      (λ e. ap length_of (short-whole s start n e) ∙ sym e)
      (λ ne. dite (ℕ_discrete start 0)
      (λ z. ap length_of (short-cut s start n ne z) ∙ short-long s.0.kind s n)
      (λ nz. ap length_of (short-later s start n ne nz) ∙ step-long s.0.kind s start n));
  whole = short-whole;
}

-- ---- the edges that a range touches
module _ (cut : Shape → ℕ → ℕ → Shape) where
  -- edges in front of the range are passed over
  pub touched-past : (x : Shape) (xs : List Shape) (o n : ℕ) → length_of x ≤ o → touched cut (x ∷ xs) o n ≡ touched cut xs (o - length_of x) n
  touched-past x xs o n past = if_true (leb (length_of x) o) _ _ (le-leb _ _ past)

  -- a range within one edge
  pub touched-one : (x : Shape) (xs : List Shape) (o n : ℕ) → o < length_of x → o + n ≤ length_of x → touched cut (x ∷ xs) o n ≡ cut x o n ∷ []
  touched-one x xs o n lt fits = if_false (leb (length_of x) o) _ _ (lt-leb _ _ lt) ∙ if_true (leb n (length_of x - o)) _ _ (le-leb _ _ (omega arith))

  -- a range that goes on behind the first edge
  pub touched-more : (x : Shape) (xs : List Shape) (o n : ℕ) → o < length_of x → length_of x < o + n → touched cut (x ∷ xs) o n ≡ cut x o (length_of x - o) ∷ touched cut xs 0 (n - (length_of x - o))
  touched-more x xs o n lt more = if_false (leb (length_of x) o) _ _ (lt-leb _ _ lt) ∙ if_false (leb n (length_of x - o)) _ _ (lt-leb _ _ (omega arith))

-- 1 or more such edges, no more than there were, of the range's length
pub record AreTouched (l : ℕ) (n : ℕ) (es ts : List Shape) : Type 0 where
  pub all : All (IsNode l) ts
  pub long : sum_by length_of ts ≡ n
  pub some : 0 < length ts
  pub few : length ts ≤ length es

pub All-tail : (P : Shape → Type 0) (x : Shape) (xs : List Shape) → All P (x ∷ xs) → All P xs
All-tail P x xs all = λ k d h. let lt : suc k < length (x ∷ xs) = omega arith in all (suc k) d lt

pub All-head : (P : Shape → Type 0) (x : Shape) (xs : List Shape) → All P (x ∷ xs) → P x
All-head P x xs all = all 0 x (omega arith)

-- what cutting does at a level
pub record CutsAt (l : ℕ) (cut : Shape → ℕ → ℕ → Shape) : Type 0 where
  pub node : (s : Shape) (start n : ℕ) → IsNode l s → 0 < n → start + n ≤ length_of s → IsNode l (cut s start n)
  pub long : (s : Shape) (start n : ℕ) → IsNode l s → 0 < n → start + n ≤ length_of s → length_of (cut s start n) ≡ n

module _ (l : ℕ) (cut : Shape → ℕ → ℕ → Shape) (cuts : CutsAt l cut) where
  pub touched-at : (es : List Shape) (o n : ℕ) → All (IsNode l) es → 0 < n → o + n ≤ sum_by length_of es → AreTouched l n es (touched cut es o n)
  touched-at [] o n all some fits = absurd (omega (arith, some, fits))
  touched-at (e ∷ es) o n all some fits =
      let node = All-head (IsNode l) e es all in
      let rest = All-tail (IsNode l) e es all in
      let sum = sum_by-cons length_of e es in
      dite (dec_lt o (length_of e))
      (λ here. dite (dec_lt (length_of e) (o + n))
      (λ more.
      let m : ℕ = length_of e - o in
      let c = cut e o m in
      let long = cuts.long e o m node (omega (arith, here)) (omega (arith, here)) in
      go c (cuts.node e o m node (omega (arith, here)) (omega (arith, here))) (touched cut es 0 (n - m)) (touched-more cut e es o n here more) (touched-at es 0 (n - m) rest (omega (arith, here, more)) (omega (arith, fits, sum, here, more))) (omega (arith, long, here, more)))
      (λ last. subst (AreTouched l n (e ∷ es)) (sym (touched-one cut e es o n here (omega arith))) (record {
        all = All-cons (IsNode l) (cut e o n) [] (cuts.node e o n node some (omega arith)) (All-nil _);
        long = omega (arith, cuts.long e o n node some (omega arith), sum_by-cons length_of (cut e o n) []);
        some = omega arith;
        few = omega arith;
      })))
      (λ past.
      let r = touched-at es (o - length_of e) n rest some (omega (arith, fits, sum, past)) in
      subst (AreTouched l n (e ∷ es)) (sym (touched-past cut e es o n (omega arith))) (record { all = r.all; long = r.long; some = r.some; few = omega (arith, r.few) }))
    where
      go : (c : Shape) → IsNode l c → (ts : List Shape) → touched cut (e ∷ es) o n ≡ c ∷ ts → AreTouched l (n - (length_of e - o)) es ts → length_of c + (n - (length_of e - o)) ≡ n → AreTouched l n (e ∷ es) (touched cut (e ∷ es) o n)
      go c node ts is r sum = subst (AreTouched l n (e ∷ es)) (sym is) (record {
        all = All-cons (IsNode l) c ts node r.all;
        long = omega (arith, sum_by-cons length_of c ts, r.long, sum);
        some = omega arith;
        few = omega (arith, r.few);
      })

-- ---- a range of a tree
module _ (cut : Shape → ℕ → ℕ → Shape) (data_cut : CutsData cut) where
  pub keep-whole : (l : ℕ) (s : Shape) (start n : ℕ) → n ≡ length_of s → keep_by cut l s start n ≡ s
  unfolding keep_by
  keep-whole zero s start n e = data_cut.whole s start n e
  keep-whole (suc l) s start n e = if_true (eqb n (length_of s)) s _ (eq-eqb n (length_of s) e)

  pub keep-above : (l : ℕ) (s : Shape) (start n : ℕ) → (n ≡ length_of s → ⊥) → keep_by cut (suc l) s start n ≡ with_edges s (touched (keep_by cut l) (children s) start n)
  unfolding keep_by
  keep-above l s start n ne = if_false (eqb n (length_of s)) s _ (ne_eqb n (length_of s) ne)

  pub keep-data : (s : Shape) (start n : ℕ) → keep_by cut 0 s start n ≡ cut s start n
  unfolding keep_by
  keep-data s start n = refl

  keeps-data : CutsAt 0 (keep_by cut 0)
  keeps-data = record {
    node = λ s start n node some fits. subst (IsNode 0) (sym (keep-data s start n)) (data_cut.node s start n node some fits);
    long = λ s start n node some fits. ap length_of (keep-data s start n) ∙ data_cut.long s start n;
  }

  pub keeps : (l : ℕ) → CutsAt l (keep_by cut l)
  keeps zero = keeps-data
  keeps (suc l) = record {
    node = λ s start n node some fits. dite (ℕ_discrete n (length_of s))
        (λ e. subst (IsNode (suc l)) (sym (keep-whole (suc l) s start n e)) node)
        (λ ne. subst (IsNode (suc l)) (sym (keep-above l s start n ne))
        (let t = touched-at l (keep_by cut l) (keeps l) (children s) start n node.below some (omega (arith, fits, node.long)) in
        IsNode-with_edges l s _ node.at_level t.some (omega (arith, t.few, node.few)) t.all));
    long = λ s start n node some fits. dite (ℕ_discrete n (length_of s))
        (λ e. ap length_of (keep-whole (suc l) s start n e) ∙ sym e)
        (λ ne. ap length_of (keep-above l s start n ne)
        ∙ (length-over _ _
        ∙ (touched-at l (keep_by cut l) (keeps l) (children s) start n node.below some (omega (arith, fits, node.long))).long));
  }
