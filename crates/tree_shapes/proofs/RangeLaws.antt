-- A range of what was kept is a range of the whole, and roots of one edge that are dropped.
use Rattle.std.proofs.Common.{ℕ, zero, suc, ◌≡◌, ◌+◌, ◌-◌, ◌<◌, ◌≤◌, eqb, List, [], ◌∷◌, length, sum_by, refl, sym, ap, subst, ◌∙◌, get_or, arith, eq-eqb, ne_eqb}
use Rattle.std.specs.List.{All}
use Rattle.std.proofs.lemmas.List.Sums.{sum_by-cons}
use mathlib.Core.Logic.{dite}
use native.Mathlib.Decide.{ℕ_discrete, dec_lt}
use Rattle.node_forest.specs.declared.kind.Kind.{Kind}
use Rattle.node_forest.specs.declared.kind.Kind.TheVariants.{Flat, External, Part, Sum, Branch}
use Rattle.node_forest.specs.declared.side.Side.TheVariants.{Front}
use Rattle.node_forest.specs.Forest.{children}
use Rattle.tree_shapes.specs.Growth.{outermost, with_edges}
use Rattle.tree_shapes.specs.Keep.{part_step, part_of, touched, keep, lowered, kept}
use Rattle.tree_shapes.specs.Room.{IsRooted}
use Rattle.tree_shapes.specs.Shape.{Shape, level, branch_over, length_of, IsData, IsNode}
use Rattle.tree_shapes.proofs.GrowthLaws.{level-over, edges-over}
use Rattle.tree_shapes.proofs.KeepLaws.{if_true, if_false, All-tail, All-head, part-whole, part-cut, parts-cut, touched-past, touched-one, touched-more, CutsAt, keep-whole, keep-above, keep-data, keeps}
use Rattle.tree_shapes.proofs.ShapeLaws.{level-node}

-- ---- a part of a part
step-step : (k : Kind) (s : Shape) (a n b m : ℕ) → IsData k s → part_step (part_step k s a n).0.kind (part_step k s a n) b m ≡ part_step k s (a + b) m
step-step Flat s a n b m d = refl
step-step External s a n b m d = refl
step-step Part s a n b m d = let e : s.0.more + a + b ≡ s.0.more + (a + b) = omega arith in λ i. (record { kind = Part; length = m; more = e i }, s.1)
step-step Sum s a n b m d = absurd d
step-step Branch s a n b m d = absurd d

at-start : (a b : ℕ) → a ≡ 0 → b ≡ a + b
at-start a b z = omega (arith, z)

at-end : (a b : ℕ) → b ≡ 0 → a ≡ a + b
at-end a b z = omega (arith, z)

-- ---- a range of what was kept
abbrev Repeats : ℕ → (Shape → ℕ → ℕ → Shape) → Type 0
Repeats l cut = (s : Shape) (a n b m : ℕ) → IsNode l s → 0 < m → b + m ≤ n → a + n ≤ length_of s → cut (cut s a n) b m ≡ cut s (a + b) m

parts-repeat : Repeats 0 part_of
parts-repeat s a n b m node some within fits = dite (ℕ_discrete n (length_of s))
    (λ e. ap (λ (z : Shape). part_of z b m) (part-whole s a n e) ∙ ap (λ (k : ℕ). part_of s k m) (at-start a b (omega (arith, e, fits))))
    (λ ne.
    let p = part_step s.0.kind s a n in
    let long : length_of p ≡ n = ap length_of (sym (part-cut s a n ne)) ∙ parts-cut.long s a n in
    ap (λ (z : Shape). part_of z b m) (part-cut s a n ne)
    ∙ dite (ℕ_discrete m n)
    (λ same. part-whole p b m (same ∙ sym long) ∙ sym (part-cut s a n ne) ∙ (λ i. part_of s (at-end a b (omega (arith, same, within)) i) (sym same i)))
    (λ other.
    part-cut p b m (λ e. other (e ∙ long))
    ∙ step-step s.0.kind s a n b m node
    ∙ sym (part-cut s (a + b) m (λ e. absurd (omega (arith, e, ne, other, within, fits))))))

module _ (l : ℕ) (cut : Shape → ℕ → ℕ → Shape) (cuts : CutsAt l cut) (repeats : Repeats l cut) where
  touched-repeat : (es : List Shape) (a n b m : ℕ) → All (IsNode l) es → 0 < m → b + m ≤ n → a + n ≤ sum_by length_of es → touched cut (touched cut es a n) b m ≡ touched cut es (a + b) m
  touched-repeat [] a n b m all some within fits = refl
  touched-repeat (e ∷ es) a n b m all some within fits =
      let node = All-head (IsNode l) e es all in
      let rest = All-tail (IsNode l) e es all in
      let sum = sum_by-cons length_of e es in
      let x : ℕ = length_of e in
      dite (dec_lt a x)
      (λ here. dite (dec_lt x (a + n))
      (λ more.
      let f : ℕ = x - a in
      let c = cut e a f in
      let long : length_of c ≡ f = cuts.long e a f node (omega (arith, here)) (omega (arith, here)) in
      ap (λ (ts : List Shape). touched cut ts b m) (touched-more cut e es a n here more)
      ∙ dite (dec_lt b f)
      (λ inside. dite (dec_lt f (b + m))
      (λ beyond.
      let g : ℕ = f - b in
      let first : cut c b (length_of c - b) ≡ cut e (a + b) (x - (a + b)) =
      ap (λ (k : ℕ). cut c b (k - b)) long ∙ repeats e a f b g node (omega (arith, inside)) (omega (arith, inside)) (omega (arith, here)) ∙ ap (λ (k : ℕ). cut e (a + b) k) (omega (arith, inside, here)) in
      let left : m - (length_of c - b) ≡ m - g = omega (arith, long) in
      let later = touched-repeat es 0 (n - f) 0 (m - g) rest (omega (arith, beyond, inside)) (omega (arith, within, inside, beyond)) (omega (arith, fits, sum, here, more)) in
      touched-more cut c (touched cut es 0 (n - f)) b m (omega (arith, long, inside)) (omega (arith, long, beyond))
      ∙ (λ i. first i ∷ touched cut (touched cut es 0 (n - f)) 0 (left i))
      ∙ ap (λ (ts : List Shape). cut e (a + b) (x - (a + b)) ∷ ts) (later ∙ ap (λ (k : ℕ). touched cut es 0 k) (omega (arith, inside, here)))
      ∙ sym (touched-more cut e es (a + b) m (omega (arith, inside, here)) (omega (arith, beyond, here))))
      (λ last.
      touched-one cut c (touched cut es 0 (n - f)) b m (omega (arith, long, inside)) (omega (arith, long, last))
      ∙ ap (λ (z : Shape). z ∷ []) (repeats e a f b m node some (omega (arith, last)) (omega (arith, here)))
      ∙ sym (touched-one cut e es (a + b) m (omega (arith, inside, here)) (omega (arith, last, here)))))
      (λ past.
      let over : b - length_of c ≡ b - f = omega (arith, long) in
      touched-past cut c (touched cut es 0 (n - f)) b m (omega (arith, long, past))
      ∙ ap (λ (k : ℕ). touched cut (touched cut es 0 (n - f)) k m) over
      ∙ touched-repeat es 0 (n - f) (b - f) m rest some (omega (arith, within, past)) (omega (arith, fits, sum, here, more))
      ∙ ap (λ (k : ℕ). touched cut es k m) (omega (arith, past, here))
      ∙ sym (touched-past cut e es (a + b) m (omega (arith, past, here)))))
      (λ last.
      let long : length_of (cut e a n) ≡ n = cuts.long e a n node (omega (arith, some, within)) (omega (arith, last)) in
      ap (λ (ts : List Shape). touched cut ts b m) (touched-one cut e es a n here (omega (arith, last)))
      ∙ touched-one cut (cut e a n) [] b m (omega (arith, long, some, within)) (omega (arith, long, within))
      ∙ ap (λ (z : Shape). z ∷ []) (repeats e a n b m node some within (omega (arith, last)))
      ∙ sym (touched-one cut e es (a + b) m (omega (arith, some, within, last)) (omega (arith, within, last)))))
      (λ past.
      ap (λ (ts : List Shape). touched cut ts b m) (touched-past cut e es a n (omega (arith, past)))
      ∙ touched-repeat es (a - x) n b m rest some within (omega (arith, fits, sum, past))
      ∙ ap (λ (k : ℕ). touched cut es k m) (omega (arith, past))
      ∙ sym (touched-past cut e es (a + b) m (omega (arith, past))))

with_edges-twice : (l : ℕ) (s : Shape) (es fs : List Shape) → level s ≡ suc l → with_edges (with_edges s es) fs ≡ with_edges s fs
with_edges-twice l s es fs at = let e : level (branch_over (level s - 1) es) - 1 ≡ level s - 1 = omega (arith, level-over (level s - 1) es) in ap (λ (h : ℕ). branch_over h fs) e

pub keep-keep : (l : ℕ) → Repeats l (keep l)
keep-keep zero s a n b m node some within fits =
    (λ i. keep-data part_of parts-cut (keep-data part_of parts-cut s a n i) b m i) ∙ (parts-repeat s a n b m node some within fits ∙ sym (keep-data part_of parts-cut s (a + b) m))
keep-keep (suc l) s a n b m node some within fits = dite (ℕ_discrete n (length_of s))
    (λ e. ap (λ (z : Shape). keep (suc l) z b m) (keep-whole part_of parts-cut (suc l) s a n e) ∙ ap (λ (k : ℕ). keep (suc l) s k m) (at-start a b (omega (arith, e, fits))))
    (λ ne.
    let ts = touched (keep l) (children s) a n in
    let p = with_edges s ts in
    let is : keep (suc l) s a n ≡ p = keep-above part_of parts-cut l s a n ne in
    let long : length_of p ≡ n = ap length_of (sym is) ∙ (keeps part_of parts-cut (suc l)).long s a n node (omega (arith, some, within)) fits in
    ap (λ (z : Shape). keep (suc l) z b m) is
    ∙ dite (ℕ_discrete m n)
    (λ same. keep-whole part_of parts-cut (suc l) p b m (same ∙ sym long) ∙ sym is ∙ (λ i. keep (suc l) s (at-end a b (omega (arith, same, within)) i) (sym same i)))
    (λ other.
    keep-above part_of parts-cut l p b m (λ e. other (e ∙ long))
    ∙ with_edges-twice l s ts (touched (keep l) (children p) b m) node.at_level
    ∙ ap (λ (zs : List Shape). with_edges s (touched (keep l) zs b m)) (edges-over (level s - 1) ts)
    ∙ ap (with_edges s) (touched-repeat l (keep l) (keeps part_of parts-cut l) (keep-keep l) (children s) a n b m node.below some within (omega (arith, fits, node.long)))
    ∙ sym (keep-above part_of parts-cut l s (a + b) m (λ e. absurd (omega (arith, e, ne, other, within, fits))))))

-- ---- roots of one edge
lowered-single : (l : ℕ) (s : Shape) → length (children s) ≡ 1 → lowered (suc l) s ≡ lowered l (outermost Front s)
unfolding lowered
lowered-single l s one = if_true (eqb (length (children s)) 1) _ _ (eq-eqb (length (children s)) 1 one)

lowered-wide : (l : ℕ) (s : Shape) → (length (children s) ≡ 1 → ⊥) → lowered (suc l) s ≡ s
unfolding lowered
lowered-wide l s more = if_false (eqb (length (children s)) 1) _ _ (ne_eqb (length (children s)) 1 more)

lowered-data : (s : Shape) → lowered 0 s ≡ s
unfolding lowered
lowered-data s = refl

-- its only edge
pub record IsSingle (l : ℕ) (s e : Shape) : Type 0 where
  pub node : IsNode l e
  pub edges : children s ≡ e ∷ []
  pub long : length_of s ≡ length_of e

single : (l : ℕ) (s : Shape) → IsNode (suc l) s → length (children s) ≡ 1 → IsSingle l s (outermost Front s)
single l s node one = go (children s) refl
  where
    go : (es : List Shape) → children s ≡ es → IsSingle l s (outermost Front s)
    go [] is = absurd (omega (arith, one, ap (λ (zs : List Shape). length zs) is))
    go (e ∷ f ∷ es) is = absurd (omega (arith, one, ap (λ (zs : List Shape). length zs) is))
    go (e ∷ []) is =
        let first : outermost Front s ≡ e = ap (λ (zs : List Shape). get_or zs 0 s) is in
        record {
          node = node.below 0 s (omega (arith, one));
          edges = is ∙ ap (λ (z : Shape). z ∷ []) (sym first);
          long = node.long ∙ (ap (λ (zs : List Shape). sum_by length_of zs) is ∙ (sum_by-cons length_of e [] ∙ (let q : length_of e + sum_by length_of [] ≡ length_of e = omega arith in q) ∙ ap length_of (sym first)));
        }

-- what is left when roots of one edge are dropped
pub record IsLowered (l : ℕ) (s c : Shape) : Type 0 where
  pub root : IsRooted c
  pub long : length_of c ≡ length_of s
  pub low : level c ≤ l

pub lowers : (l : ℕ) (s : Shape) → IsNode l s → IsLowered l s (lowered l s)
lowers zero s node =
    let at = level-node 0 s node in
    subst (IsLowered 0 s) (sym (lowered-data s)) (record {
      root = record { node = subst (λ (k : ℕ). IsNode k s) (sym at) node; wide = λ up. absurd (omega (arith, up, at)) };
      long = refl;
      low = omega (arith, at);
    })
lowers (suc l) s node = dite (ℕ_discrete (length (children s)) 1)
    (λ one.
    let e = single l s node one in
    let r = lowers l (outermost Front s) e.node in
    subst (IsLowered (suc l) s) (sym (lowered-single l s one)) (record { root = r.root; long = r.long ∙ sym e.long; low = omega (arith, r.low) }))
    (λ more.
    let at = level-node (suc l) s node in
    subst (IsLowered (suc l) s) (sym (lowered-wide l s more)) (record {
      root = record { node = subst (λ (k : ℕ). IsNode k s) (sym at) node; wide = λ up. (let some = node.some in omega (arith, more, some)) };
      long = refl;
      low = omega (arith, at);
    }))

pub kept-lowered : (t : Shape) (start n : ℕ) → IsNode (level t) t → 0 < n → start + n ≤ length_of t → IsLowered (level t) (keep (level t) t start n) (kept t start n)
kept-lowered t start n node some fits = lowers (level t) (keep (level t) t start n) ((keeps part_of parts-cut (level t)).node t start n node some fits)

pub kept-length : (t : Shape) (start n : ℕ) → IsNode (level t) t → 0 < n → start + n ≤ length_of t → length_of (kept t start n) ≡ n
kept-length t start n node some fits = (kept-lowered t start n node some fits).long ∙ (keeps part_of parts-cut (level t)).long t start n node some fits

rooted-lowered : (l : ℕ) (t : Shape) → level t ≡ l → IsRooted t → lowered l t ≡ t
rooted-lowered zero t at root = lowered-data t
rooted-lowered (suc l) t at root = lowered-wide l t (λ one. absurd (omega (arith, one, root.wide (omega (arith, at)))))

pub kept-whole : (t : Shape) (start n : ℕ) → IsRooted t → n ≡ length_of t → kept t start n ≡ t
kept-whole t start n root e = ap (lowered (level t)) (keep-whole part_of parts-cut (level t) t start n e) ∙ rooted-lowered (level t) t refl root

-- a range is the same whether roots were dropped before
lowered-keep : (l : ℕ) (s : Shape) (b m : ℕ) → IsNode l s → 0 < m → b + m ≤ length_of s → kept (lowered l s) b m ≡ lowered l (keep l s b m)
lowered-keep zero s b m node some fits = ap (λ (z : Shape). kept z b m) (lowered-data s) ∙ ap (λ (k : ℕ). lowered k (keep k s b m)) (level-node 0 s node)
lowered-keep (suc l) s b m node some fits = dite (ℕ_discrete (length (children s)) 1)
    (λ one.
    let e = outermost Front s in
    let is = single l s node one in
    ap (λ (z : Shape). kept z b m) (lowered-single l s one)
    ∙ lowered-keep l e b m is.node some (omega (arith, fits, is.long))
    ∙ dite (ℕ_discrete m (length_of s))
    (λ whole. ap (lowered l) (keep-whole part_of parts-cut l e b m (whole ∙ is.long)) ∙ sym (ap (lowered (suc l)) (keep-whole part_of parts-cut (suc l) s b m whole) ∙ lowered-single l s one))
    (λ cut.
    let k = keep l e b m in
    let above : keep (suc l) s b m ≡ with_edges s (k ∷ []) =
    keep-above part_of parts-cut l s b m cut
    ∙ ap (λ (zs : List Shape). with_edges s (touched (keep l) zs b m)) is.edges
    ∙ ap (with_edges s) (touched-one (keep l) e [] b m (omega (arith, fits, some, is.long)) (omega (arith, fits, is.long))) in
    let edges : children (with_edges s (k ∷ [])) ≡ k ∷ [] = edges-over (level s - 1) (k ∷ []) in
    let single_edge : length (children (with_edges s (k ∷ []))) ≡ 1 = ap (λ (zs : List Shape). length zs) edges in
    sym (ap (lowered (suc l)) above
    ∙ lowered-single l (with_edges s (k ∷ [])) single_edge
    ∙ ap (λ (zs : List Shape). lowered l (get_or zs 0 (with_edges s (k ∷ [])))) edges)))
    (λ more.
    ap (λ (z : Shape). kept z b m) (lowered-wide l s more)
    ∙ ap (λ (k : ℕ). lowered k (keep k s b m)) (level-node (suc l) s node))

pub kept-kept : (t : Shape) (a n b m : ℕ) → IsNode (level t) t → 0 < m → b + m ≤ n → a + n ≤ length_of t → kept (kept t a n) b m ≡ kept t (a + b) m
kept-kept t a n b m node some within fits =
    let k = keeps part_of parts-cut (level t) in
    let long = k.long t a n node (omega (arith, some, within)) fits in
    lowered-keep (level t) (keep (level t) t a n) b m (k.node t a n node (omega (arith, some, within)) fits) some (omega (arith, long, within))
    ∙ ap (lowered (level t)) (keep-keep (level t) t a n b m node some within fits)
