-- The last flat's room that is filled, and the last flat that is shortened: what is well formed then, and how long it is.
use Rattle.std.proofs.Common.{ℕ, zero, suc, ◌≡◌, ◌+◌, ◌-◌, ◌<◌, ◌≤◌, Bool, true, false, cond, eqb, List, [], ◌∷◌, length, set, refl, sym, ap, subst, ◌∙◌, arith, eq-eqb}
use Rattle.std.specs.Prelude.{min, Contains, ◌&&◌}
use Rattle.std.proofs.lemmas.Bool.{lt-ltb}
use Rattle.std.proofs.lemmas.List.{length-set}
use Rattle.std.proofs.lemmas.List.Sums.{sum_by-set}
use Rattle.std.proofs.lemmas.List.Elements.{All-set}
use mathlib.Core.Logic.{dite}
use native.Mathlib.Decide.{ℕ_discrete, dec_lt}
use Rattle.node_forest.specs.declared.kind.Kind.{Kind}
use Rattle.node_forest.specs.declared.kind.Kind.TheVariants.{Flat, External, Part, Sum, Branch}
use Rattle.node_forest.specs.declared.side.Side.TheVariants.{Back}
use Rattle.node_forest.specs.Forest.{children}
use Rattle.tree_shapes.specs.Filling.{room_step, last_room, last_filled, with_bytes_filling}
use Rattle.tree_shapes.specs.Growth.{outer, outermost}
use Rattle.tree_shapes.specs.Keep.{part_of, shortened_of, touched, keep_by, keep, kept, is_single, kept_in_front}
use Rattle.tree_shapes.specs.Room.{IsRooted}
use Rattle.tree_shapes.specs.Shape.{Shape, level, length_of, capacities, IsData, IsNode}
use Rattle.tree_shapes.proofs.FlatLaws.{with_bytes-rooted, with_bytes-length}
use Rattle.tree_shapes.proofs.GrowthLaws.{edges-over, length-over, outer-lt, IsNode-with_edges}
use Rattle.tree_shapes.proofs.KeepLaws.{CutsData, parts-cut, shortened-cut, touched-past, touched-one, touched-more, keep-whole, keep-above, keeps}
use Rattle.tree_shapes.proofs.RangeLaws.{kept-lowered, kept-length}
use Rattle.tree_shapes.proofs.ShapeLaws.{level-node}

-- ---- room that is filled
-- a node of the same level, longer by so much, with as many edges
pub record IsFilledUp (l n : ℕ) (s c : Shape) : Type 0 where
  pub node : IsNode l c
  pub long : length_of c ≡ length_of s + n
  pub edges : length (children c) ≡ length (children s)

more-data : (k : Kind) (s : Shape) (n : ℕ) → s.0.kind ≡ k → IsData k s → n ≤ room_step k s.0.more → IsData k (record { kind = s.0.kind; length = s.0.length + n; more = s.0.more - n }, s.1)
more-data Flat s n is d fits =
    let same : s.0.more + length_of s ≡ (s.0.more - n) + (s.0.length + n) = omega (arith, fits) in
    record { some = omega (arith, d.some); capacity = subst (λ (c : ℕ). Contains capacities c) same d.capacity }
more-data External s n is d fits = let e : s.0.length ≡ s.0.length + n = omega (arith, fits) in record { some = omega (arith, d.some); small = omega (arith, d.small, fits) }
more-data Part s n is d fits = subst (IsData Part) (λ i. (record { kind = s.0.kind; length = longer i; more = same i }, s.1)) d
  where
    none : n ≡ 0
    none = omega (arith, fits)

    longer : s.0.length ≡ s.0.length + n
    longer = omega (arith, none)

    same : s.0.more ≡ s.0.more - n
    same = omega (arith, none)
more-data Sum s n is d fits = absurd d
more-data Branch s n is d fits = absurd d

pub fills-up : (l : ℕ) (s : Shape) (n : ℕ) → IsNode l s → n ≤ last_room l s → IsFilledUp l n s (last_filled l s n)
unfolding last_room last_filled
fills-up zero s n node fits = record { node = more-data s.0.kind s n refl node fits; long = refl; edges = refl }
fills-up (suc l) s n node fits =
    let at = outer Back (length (children s)) in
    let within = outer-lt Back (length (children s)) node.some in
    let o = outermost Back s in
    let r = fills-up l o n (node.below at s within) fits in
    let es = set (children s) at (last_filled l o n) in
    let count : length es ≡ length (children s) = length-set (children s) at (last_filled l o n) in
    record {
      node = IsNode-with_edges l s es node.at_level (omega (arith, count, node.some)) (omega (arith, count, node.few)) (All-set (IsNode l) (children s) at (last_filled l o n) r.node node.below);
      long = length-over (level s - 1) es ∙ omega (arith, sum_by-set length_of (children s) at (last_filled l o n) s within, r.long, node.long);
      edges = ap (λ (zs : List Shape). length zs) (edges-over (level s - 1) es) ∙ count;
    }

pub filled-rooted : (t : Shape) (n : ℕ) → IsRooted t → n ≤ last_room (level t) t → IsRooted (last_filled (level t) t n)
filled-rooted t n root fits =
    let f = fills-up (level t) t n root.node fits in
    let at = level-node (level t) (last_filled (level t) t n) f.node in
    record {
      node = subst (λ (l : ℕ). IsNode l (last_filled (level t) t n)) (sym at) f.node;
      wide = λ up. omega (arith, f.edges, root.wide (omega (arith, up, at)));
    }

abbrev first_of : Shape → ℕ → ℕ
first_of t n = min n (last_room (level t) t)

pub filling-rooted : (t : Shape) (n : ℕ) → IsRooted t → IsRooted (with_bytes_filling t n)
filling-rooted t n root = with_bytes-rooted Back (last_filled (level t) t (first_of t n)) (n - first_of t n) (filled-rooted t (first_of t n) root (omega arith))

pub filling-length : (t : Shape) (n : ℕ) → IsRooted t → length_of (with_bytes_filling t n) ≡ length_of t + n
filling-length t n root =
    let f = fills-up (level t) t (first_of t n) root.node (omega arith) in
    omega (arith, with_bytes-length Back (last_filled (level t) t (first_of t n)) (n - first_of t n) (filled-rooted t (first_of t n) root (omega arith)), f.long)

-- ---- a last flat that is shortened
-- how many edges a range touches doesn't depend on how they are cut
touched-count : (f g : Shape → ℕ → ℕ → Shape) (es : List Shape) (o n : ℕ) → length (touched f es o n) ≡ length (touched g es o n)
touched-count f g [] o n = refl
touched-count f g (e ∷ es) o n = dite (dec_lt o (length_of e))
    (λ here. dite (dec_lt (length_of e) (o + n))
    (λ more.
    let m : ℕ = n - (length_of e - o) in
    ap (λ (zs : List Shape). length zs) (touched-more f e es o n here more)
    ∙ ap (λ (k : ℕ). suc k) (touched-count f g es 0 m)
    ∙ ap (λ (zs : List Shape). length zs) (sym (touched-more g e es o n here more)))
    (λ last.
    ap (λ (zs : List Shape). length zs) (touched-one f e es o n here (omega arith))
    ∙ ap (λ (zs : List Shape). length zs) (sym (touched-one g e es o n here (omega arith)))))
    (λ past.
    ap (λ (zs : List Shape). length zs) (touched-past f e es o n (omega arith))
    ∙ touched-count f g es (o - length_of e) n
    ∙ ap (λ (zs : List Shape). length zs) (sym (touched-past g e es o n (omega arith))))

keep-count : (l : ℕ) (s : Shape) (n : ℕ) → length (children (keep_by shortened_of (suc l) s 0 n)) ≡ length (children (keep (suc l) s 0 n))
keep-count l s n = dite (ℕ_discrete n (length_of s))
    (λ e. ap (λ (z : Shape). length (children z)) (keep-whole shortened_of shortened-cut (suc l) s 0 n e ∙ sym (keep-whole part_of parts-cut (suc l) s 0 n e)))
    (λ ne.
    let es = touched (keep_by shortened_of l) (children s) 0 n in
    let fs = touched (keep l) (children s) 0 n in
    ap (λ (z : Shape). length (children z)) (keep-above shortened_of shortened-cut l s 0 n ne)
    ∙ ap (λ (zs : List Shape). length zs) (edges-over (level s - 1) es)
    ∙ touched-count (keep_by shortened_of l) (keep l) (children s) 0 n
    ∙ ap (λ (zs : List Shape). length zs) (sym (edges-over (level s - 1) fs))
    ∙ ap (λ (z : Shape). length (children z)) (sym (keep-above part_of parts-cut l s 0 n ne)))

-- what is kept in front: well formed but for its height, no higher, and of that length
pub record IsKept (t : Shape) (n : ℕ) (c : Shape) : Type 0 where
  pub root : IsRooted c
  pub long : length_of c ≡ n
  pub low : level c ≤ level t

and-split : (a b : Bool) → a && b ≡ false → (a ≡ true) → b ≡ false
and-split true b e h = e
and-split false b e h = absurd (cc)

pub kept-is : (t : Shape) (start n : ℕ) → IsRooted t → 0 < n → start + n ≤ length_of t → IsKept t n (kept t start n)
kept-is t start n root some fits =
    let k = kept-lowered t start n root.node some fits in
    record { root = k.root; long = kept-length t start n root.node some fits; low = k.low }

wide-kept : (t : Shape) (n : ℕ) (cut : Shape → ℕ → ℕ → Shape) → CutsData cut → IsRooted t → 0 < n → n ≤ length_of t → ((l : ℕ) → level t ≡ suc l → length (children (keep_by cut (suc l) t 0 n)) ≡ length (children (keep (suc l) t 0 n)))
    → is_single (keep (level t) t 0 n) ≡ false → IsKept t n (keep_by cut (level t) t 0 n)
wide-kept t n cut data_cut root some fits same not_single =
    let k = keeps cut data_cut (level t) in
    let c = keep_by cut (level t) t 0 n in
    let node = k.node t 0 n root.node some (omega (arith, fits)) in
    let at = level-node (level t) c node in
    let p = keeps part_of parts-cut (level t) in
    let part_node = p.node t 0 n root.node some (omega (arith, fits)) in
    let part_at = level-node (level t) (keep (level t) t 0 n) part_node in
    record {
      root = record {
        node = subst (λ (l : ℕ). IsNode l c) (sym at) node;
        wide = λ up. go (level t) refl (omega (arith, up, at)) part_node part_at;
      };
      long = k.long t 0 n root.node some (omega (arith, fits));
      low = omega (arith, at);
    }
  where
    go : (l : ℕ) → level t ≡ l → 0 < l → IsNode l (keep l t 0 n) → level (keep l t 0 n) ≡ l → 2 ≤ length (children (keep_by cut (level t) t 0 n))
    go zero e up part_node part_at = absurd (omega (arith, up))
    go (suc l) e up part_node part_at =
        let single : is_single (keep (suc l) t 0 n) ≡ false = ap (λ (k : ℕ). is_single (keep k t 0 n)) (sym e) ∙ not_single in
        let many : eqb (length (children (keep (suc l) t 0 n))) 1 ≡ false = and-split _ _ single (lt-ltb 0 (level (keep (suc l) t 0 n)) (omega (arith, part_at))) in
        let other : length (children (keep (suc l) t 0 n)) ≡ 1 → ⊥ = λ one. no-both _ (eq-eqb _ 1 one) many in
        let count : length (children (keep_by cut (level t) t 0 n)) ≡ length (children (keep (suc l) t 0 n)) = ap (λ (k : ℕ). length (children (keep_by cut k t 0 n))) e ∙ same l e in
        let first = part_node.some in
        omega (arith, count, other, first)
      where
        no-both : (b : Bool) → b ≡ true → b ≡ false → ⊥
        no-both b t f = cc

pub kept-in-front : (shortens : Bool) (t : Shape) (n : ℕ) → IsRooted t → 0 < n → n ≤ length_of t → IsKept t n (kept_in_front shortens t n)
kept-in-front shortens t n root some fits = by_single (is_single (keep (level t) t 0 n)) refl shortens
  where
    by_single : (b : Bool) → is_single (keep (level t) t 0 n) ≡ b → (shortens : Bool) → IsKept t n (cond b (kept t 0 n) (cond shortens (keep_by shortened_of (level t) t 0 n) (keep (level t) t 0 n)))
    by_single true e shortens = kept-is t 0 n root some (omega (arith, fits))
    by_single false e true = wide-kept t n shortened_of shortened-cut root some fits (λ l at. keep-count l t n) e
    by_single false e false = wide-kept t n part_of parts-cut root some fits (λ l at. refl) e
