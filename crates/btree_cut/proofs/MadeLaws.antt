-- What is made for ranges, one after another, and how many numbers that takes.
use Rattle.std.proofs.Common.{ℕ, zero, suc, ◌≡◌, ◌+◌, ◌-◌, ◌<◌, ◌≤◌, min, eqb, List, [], ◌∷◌, ◌++◌, length, sum_by, refl, sym, ap, subst, ◌∙◌, get_or, take, arith, append-nil, append_assoc, eq-eqb, ne_eqb}
use Rattle.std.specs.List.{All, Contains}
use Rattle.std.specs.Prelude.{Result, Ok, Err, IfOk}
use Rattle.std.proofs.lemmas.List.{take_more, length-append}
use Rattle.std.proofs.lemmas.List.Sums.{sum_by-cons, sum_by-append}
use Rattle.std.proofs.lemmas.List.Concat.{flat_map-append}
use Rattle.std.proofs.lemmas.List.Elements.{All-append, All-nil, Contains-append_left, Contains-append_right, Contains-get_or}
use mathlib.Core.Logic.{dite}
use native.Mathlib.Decide.{ℕ_discrete, dec_lt}
use Rattle.node_forest.specs.declared.kind.Kind.{Kind}
use Rattle.node_forest.specs.declared.kind.Kind.TheVariants.{Flat, External, Part, Sum, Branch}
use Rattle.node_forest.specs.Forest.{children}
use Rattle.node_forest.specs.Label.{Node}
use Rattle.tree_shapes.proofs.KeepLaws.{if_true, if_false}
use Rattle.node_edges.specs.Body.{IsBranchOf}
use Rattle.node_edges.proofs.EdgeLaws.{children-branch}
use Rattle.node_edges.proofs.WayLaws.{nodes-edges}
use Rattle.pool_rule.specs.Trades.{Trades, IsWithin, itself, below}
use Rattle.pool_rule.specs.Views.{View, sharing}
use Rattle.pool_rule.proofs.Trades.{trade, IsWithin-trans}
use Rattle.node_pool.specs.Refusals.{IsCause, IsOfNoHeight}
use Rattle.node_pool.specs.declared.refusals.NodeError.{NodeError}
use Rattle.btree_node.specs.Made.{GainedNodes, IsMadeFrom, IsRefusedFrom, nodes_in, nodes_of_all}
use Rattle.btree_node.proofs.GainLaws.{gained-same, gained-then, gained-shared, cause-within}
use Rattle.edge_nodes.specs.Pieces.{piece_step, piece_of, new_numbers, GainsPiece}
use Rattle.edge_nodes.proofs.PieceLaws.{piece-cut, numbers-cut}
use Rattle.chunk_reader.specs.Places.{long}
use Rattle.btree_cut.specs.Ranges.{Range, some_of, ranges, AreEach}
use Rattle.btree_cut.specs.Cutting.{kept_at, kept_by, way_cut, most_made, sources, IsCut, IsCutOf, AreMadeFrom, AreCut}
use Rattle.btree_cut.proofs.RangeLaws.{range, none-of, one-of, ranges-append, ranges-few}
use Rattle.btree_cut.proofs.RangeLaws as laws
use Rattle.btree_cut.proofs.PieceLaws.{each-append}

-- ---- which trees are kept
pub kept-whole : (l : ℕ) (e : Node) (start n : ℕ) → n ≡ long e → kept_at l e start n ≡ e ∷ []
unfolding kept_at
kept-whole zero e start n whole = if_true (eqb n (long e)) (e ∷ []) (sources e.0.kind e) (eq-eqb n (long e) whole)
kept-whole (suc l) e start n whole = if_true (eqb n (long e)) (e ∷ []) (kept_by l (ranges (children e) start n)) (eq-eqb n (long e) whole)

pub kept-data : (e : Node) (start n : ℕ) → (n ≡ long e → ⊥) → kept_at 0 e start n ≡ sources e.0.kind e
unfolding kept_at
kept-data e start n less = if_false (eqb n (long e)) (e ∷ []) (sources e.0.kind e) (ne_eqb n (long e) less)

pub kept-below : (l : ℕ) (e : Node) (start n : ℕ) → (n ≡ long e → ⊥) → kept_at (suc l) e start n ≡ kept_by l (ranges (children e) start n)
unfolding kept_at
kept-below l e start n less = if_false (eqb n (long e)) (e ∷ []) (kept_by l (ranges (children e) start n)) (ne_eqb n (long e) less)

-- ---- how many numbers are taken
way-none : (l c : ℕ) → c ≡ 0 → way_cut l c ≡ 0
way-none l zero z = refl
way-none l (suc c) z = absurd (omega (arith, z))

way-some : (l c : ℕ) → 0 < c → way_cut l c ≡ l
way-some l zero some = absurd (omega (arith, some))
way-some l (suc c) some = refl

pub way-most : (l c : ℕ) → way_cut l c ≤ l
way-most l zero = omega arith
way-most l (suc c) = omega arith

way-more : (l c d : ℕ) → c ≤ d → way_cut l c ≤ way_cut l d
way-more l zero d le = omega arith
way-more l (suc c) d le = omega (arith, way-some l d (omega (arith, le)))

pub most-whole : (l : ℕ) (e : Node) (start n : ℕ) → n ≡ long e → most_made l (range e start n) ≡ 0
most-whole l e start n whole = if_true (eqb n (long e)) 0 (way_cut l start + way_cut l (long e - (start + n)) + 1) (eq-eqb n (long e) whole)

pub most-cut : (l : ℕ) (e : Node) (start n : ℕ) → (n ≡ long e → ⊥) → most_made l (range e start n) ≡ way_cut l start + way_cut l (long e - (start + n)) + 1
most-cut l e start n less = if_false (eqb n (long e)) 0 (way_cut l start + way_cut l (long e - (start + n)) + 1) (ne_eqb n (long e) less)

-- at most 25 for a tree of at most 12 levels
pub most-all : (l : ℕ) (e : Node) (start n : ℕ) → l ≤ 12 → most_made l (range e start n) ≤ 25
most-all l e start n low = dite (ℕ_discrete n (long e))
    (λ whole. omega (arith, most-whole l e start n whole))
    (λ less. omega (arith, most-cut l e start n less, way-most l start, way-most l (long e - (start + n)), low))

-- the edges on the ways to both ends, and a Branch over them
most-edges : (l : ℕ) (es : List Node) (o n : ℕ) → o + n ≤ sum_by long es → sum_by (most_made l) (ranges es o n) ≤ way_cut (suc l) o + way_cut (suc l) (sum_by long es - (o + n))
most-edges l [] o n fits = omega arith
most-edges l (e ∷ es) o n fits =
    let x : ℕ = long e in
    let sum = sum_by-cons long e es in
    let m : ℕ = min n (x - o) in
    let later : ℕ = o - x in
    let left : ℕ = n - (x - o) in
    let rest = sum_by long es in
    let parts = sum_by-append (most_made l) (some_of e o m) (ranges es later left) in
    let none : sum_by (most_made l) [] ≡ 0 = refl in
    dite (ℕ_discrete m 0)
    (λ z.
    let here = ap (sum_by (most_made l)) (none-of e o m z) in
    dite (ℕ_discrete n 0)
    (λ nz.
    let all = ap (sum_by (most_made l)) (laws.ranges-zero es later left (omega (arith, nz))) in
    omega (arith, parts, here, all, none))
    (λ some.
    let go = most-edges l es later left (omega (arith, sum, fits, z, some)) in
    omega (arith, parts, here, none, go, way-more (suc l) later o (omega arith), way-more (suc l) (rest - (later + left)) (sum_by long (e ∷ es) - (o + n)) (omega (arith, sum, z, some)))))
    (λ nz.
    let one : sum_by (most_made l) (some_of e o m) ≡ most_made l (range e o m) = ap (sum_by (most_made l)) (one-of e o m nz) ∙ (let q : sum_by (most_made l) (range e o m ∷ []) ≡ most_made l (range e o m) = omega arith in q) in
    dite (dec_lt (x - o) n)
    (λ more.
    let go = most-edges l es later left (omega (arith, sum, fits, more, nz)) in
    let begin = way-none (suc l) later (omega (arith, nz)) in
    let same : rest - (later + left) ≡ sum_by long (e ∷ es) - (o + n) = omega (arith, sum, more, nz) in
    let end = ap (way_cut (suc l)) same in
    dite (ℕ_discrete o 0)
    (λ first. omega (arith, parts, one, most-whole l e o m (omega (arith, first, more)), go, begin, end))
    (λ after.
    let cost = most-cut l e o m (omega (arith, after, nz)) in
    omega (arith, parts, one, cost, way-none l (x - (o + m)) (omega (arith, more, nz)), way-most l o, way-some (suc l) o (omega (arith, after)), go, begin, end)))
    (λ last.
    let all = ap (sum_by (most_made l)) (laws.ranges-zero es later left (omega (arith, last))) in
    dite (ℕ_discrete m x)
    (λ whole. omega (arith, parts, one, most-whole l e o m whole, all, none))
    (λ less.
    let cost = most-cut l e o m less in
    dite (ℕ_discrete o 0)
    (λ first. omega (arith, parts, one, cost, all, none, way-none l o first, way-most l (x - (o + m)), way-some (suc l) (sum_by long (e ∷ es) - (o + n)) (omega (arith, sum, less, first, last))))
    (λ after.
    omega (arith, parts, one, cost, all, none, way-most l o, way-some (suc l) o (omega (arith, after)), end-more (x - (o + m)) (sum_by long (e ∷ es) - (o + n)) (omega (arith, sum, last)))))))
  where
    end-more : (c d : ℕ) → c ≤ d → way_cut l c ≤ way_cut (suc l) d
    end-more zero d le = omega arith
    end-more (suc c) d le = omega (arith, way-some (suc l) d (omega (arith, le)))

pub most-branch : (l : ℕ) (e : Node) (start n : ℕ) → start + n ≤ long e → sum_by long (children e) ≡ long e → (n ≡ long e → ⊥) → sum_by (most_made l) (ranges (children e) start n) + 1 ≤ most_made (suc l) (range e start n)
most-branch l e start n fits sum less =
    omega (arith, most-edges l (children e) start n (omega (arith, fits, sum)), most-cut (suc l) e start n less, ap (λ (k : ℕ). way_cut (suc l) (k - (start + n))) sum)

-- ---- nodes for ranges, one after another
-- none yet
pub cut-none : (l : ℕ) (old new : List Node) (v w : View) → new ≡ old → w ≡ v → AreCut l [] old new v w
cut-none l old new v w same is = record {
  more = [];
  items = same ∙ sym (append-nil old);
  cut = tt;
  made = record {
    traded = trade v.holds [] [] w.holds (λ f. omega (arith, ap (λ (z : View). sum_by f z.holds) is));
    stand = All-nil _;
    took = ap (λ (z : View). length z.taken + 0) is;
    gained = gained-same v w is;
  };
  few = omega (arith, ap (λ (z : View). length z.taken) is);
}

-- one node
pub cut-one : (l : ℕ) (e : Node) (start n : ℕ) (old new : List Node) (c : Node) (v w : View) → (n ≡ 0 → ⊥) → new ≡ old ++ c ∷ [] → IsCut l e start n c → IsMadeFrom [] (kept_at l e start n) v w c
    → length w.taken ≤ length v.taken + most_made l (range e start n) → AreCut l (some_of e start n) old new v w
cut-one l e start n old new c v w nz items cut made few =
    subst (λ (rs : List Range). AreCut l rs old new v w) (sym (one-of e start n nz)) (record {
      more = c ∷ [];
      items = items;
      cut = (cut, tt);
      made = record {
        traded = made.traded;
        stand = subst (All (λ s. (e : Node) × Contains (c ∷ []) e × IsWithin s e)) (sym (append-nil (kept_at l e start n))) (λ k d lt. (c, (0, omega arith, refl), made.stand k d lt));
        took = omega (arith, made.took, ap nodes_of_all (append-nil (kept_at l e start n)));
        gained = made.gained;
      };
      few = omega (arith, few);
    })

made-then : (ks js : List Node) (u v w : View) (es fs : List Node) → AreMadeFrom ks u v es → AreMadeFrom js v w fs → AreMadeFrom (ks ++ js) u w (es ++ fs)
made-then ks js u v w es fs a b = record {
  traded = trade u.holds [] (es ++ fs) w.holds (λ f. omega (arith, a.traded.weighs f, b.traded.weighs f, sum_by-append f es fs));
  stand = All-append (λ s. (e : Node) × Contains (es ++ fs) e × IsWithin s e) ks js
      (λ k d lt. let p = a.stand k d lt in (p.0, Contains-append_left es fs p.0 p.1, p.2))
      (λ k d lt. let p = b.stand k d lt in (p.0, Contains-append_right es fs p.0 p.1, p.2));
  took = omega (arith, a.took, b.took, sum_by-append nodes_in ks js, sum_by-append nodes_in es fs);
  gained = gained-then u v w a.gained b.gained;
}

pub cut-then : (l : ℕ) (rs ss : List Range) (a b c : List Node) (u v w : View) → AreCut l rs a b u v → AreCut l ss b c v w → AreCut l (rs ++ ss) a c u w
cut-then l rs ss a b c u v w p q = record {
  more = p.more ++ q.more;
  items = q.items ∙ (ap (λ (xs : List Node). xs ++ q.more) p.items ∙ append_assoc a p.more q.more);
  cut = each-append (IsCutOf l) rs ss p.more q.more p.cut q.cut;
  made = subst (λ (ks : List Node). AreMadeFrom ks u w (p.more ++ q.more)) (sym (flat_map-append (λ (r : Range). kept_at l r.node r.start r.size) rs ss)) (made-then (kept_by l rs) (kept_by l ss) u v w p.more q.more p.made q.made);
  few = omega (arith, p.few, q.few, sum_by-append (most_made l) rs ss);
}

-- one edge more of a list
pub cut-next : (l : ℕ) (es : List Node) (i : ℕ) (x : Node) (start n : ℕ) (a b c : List Node) (u v w : View) → i < length es → x ≡ get_or es i x → AreCut l (ranges (take i es) start n) a b u v
    → (o k : ℕ) → o ≡ start - sum_by long (take i es) → k ≡ n - (sum_by long (take i es) - start) → AreCut l (ranges (x ∷ []) o k) b c v w → AreCut l (ranges (take (i + 1) es) start n) a c u w
cut-next l es i x start n a b c u v w lt is p o k at left q =
    let before = take i es in
    let more : take (i + 1) es ≡ before ++ x ∷ [] = take_more es i x lt ∙ ap (λ (y : Node). before ++ y ∷ []) (sym is) in
    subst (λ (rs : List Range). AreCut l rs a c u w) (sym (ap (λ (ys : List Node). ranges ys start n) more ∙ ranges-append before (x ∷ []) start n))
    (cut-then l (ranges before start n) (ranges (x ∷ []) (start - sum_by long before) (n - (sum_by long before - start))) a b c u v w p
    (subst (λ (j : ℕ). AreCut l (ranges (x ∷ []) (start - sum_by long before) j) b c v w) left (subst (λ (j : ℕ). AreCut l (ranges (x ∷ []) j k) b c v w) at q)))

-- ---- a Branch over them
pub made-over : (ks : List Node) (v w x : View) (es : List Node) (e : Node) → AreMadeFrom ks v w es → IsMadeFrom es es w x e → IsMadeFrom [] ks v x e
made-over ks v w x es e a b = record {
  traded = trade v.holds [] (e ∷ []) x.holds (λ f. omega (arith, a.traded.weighs f, b.traded.weighs f));
  stand = λ k d lt. let p = a.stand k d lt in IsWithin-trans p.2 (within-by p.1);
  took = omega (arith, a.took, b.took);
  gained = gained-then v w x a.gained b.gained;
}
  where
    within-by : {m : Node} → Contains es m → IsWithin m e
    within-by {m = m} (k, lt, is) = subst (λ (n : Node). IsWithin n e) is (b.stand k m lt)

-- ---- what the edges gave, without others before
pub cut-each : (l : ℕ) (rs : List Range) (new : List Node) (v w : View) → AreCut l rs [] new v w → AreEach (IsCutOf l) rs new
cut-each l rs new v w a = subst (AreEach (IsCutOf l) rs) (sym a.items) a.cut

pub cut-made : (l : ℕ) (rs : List Range) (new : List Node) (v w : View) → AreCut l rs [] new v w → AreMadeFrom (kept_by l rs) v w new
cut-made l rs new v w a = subst (AreMadeFrom (kept_by l rs) v w) (sym a.items) a.made

each-long : (P : Range → Node → Type 0) (rs : List Range) (es : List Node) → AreEach P rs es → length es ≡ length rs
each-long P [] [] a = refl
each-long P [] (e ∷ es) a = absurd a
each-long P (r ∷ rs) [] a = absurd a
each-long P (r ∷ rs) (e ∷ es) a = ap suc (each-long P rs es a.1)

pub cut-count : (l : ℕ) (es : List Node) (start n : ℕ) (old new : List Node) (v w : View) → AreCut l (ranges es start n) old new v w → length new ≤ length old + length es
cut-count l es start n old new v w a =
    omega (arith, ap (λ (xs : List Node). length xs) a.items, length-append old a.more, each-long (IsCutOf l) (ranges es start n) a.more a.cut, ranges-few es start n)

-- ---- a piece of a data edge
pub gained-piece : (numbers : List ℕ) (v w : View) → GainsPiece numbers v w → GainedNodes v w
gained-piece numbers v w g = record { numbers = numbers; found = g.found; back = g.back; shares = g.shares; is = g.is }

pub took-piece : (numbers : List ℕ) (v w : View) → GainsPiece numbers v w → length w.taken ≡ length v.taken + length numbers
took-piece numbers v w g = ap (λ (z : View). length z.taken) g.is ∙ length-append v.taken numbers

children-piece : (k : Kind) (m : ℕ) (e : Node) (start n : ℕ) → children (piece_step k m e start n) ≡ sources k e
children-piece Flat m e start n = refl
children-piece External m e start n = refl
children-piece Part m e start n = refl
children-piece Sum m e start n = refl
children-piece Branch m e start n = refl

-- a hold more of the edge became one of the Part
module _ (t e : Node) (start n : ℕ) (less : n ≡ long t → ⊥) (is : e ≡ piece_of e.0.number t start n) (v w x : View) (first : Trades v.holds [] (t ∷ []) w.holds) (shared : w ≡ sharing t v) (second : Trades w.holds (t ∷ []) (e ∷ []) x.holds) (gains : GainsPiece (new_numbers n t e) w x) where
  under : children e ≡ kept_at 0 t start n
  under = ap (λ (z : Node). children z) (is ∙ piece-cut e.0.number t start n less) ∙ (children-piece t.0.kind e.0.number t start n ∙ sym (kept-data t start n less))

  pub few-part : length x.taken ≡ length v.taken + 1
  few-part = omega (arith, took-piece (new_numbers n t e) w x gains, ap (λ (ns : List ℕ). length ns) (numbers-cut n t e less), ap (λ (z : View). length z.taken) shared)

  pub made-part : IsMadeFrom [] (kept_at 0 t start n) v x e
  made-part = record {
    traded = trade v.holds [] (e ∷ []) x.holds (λ f. omega (arith, first.weighs f, second.weighs f));
    stand = subst (All (λ (s : Node). IsWithin s e)) under (λ k d lt. below (Contains-get_or (children e) k d lt) itself);
    took = omega (arith, few-part, nodes-edges e, ap nodes_of_all under);
    gained = gained-then v w x (gained-shared t v w shared) (gained-piece (new_numbers n t e) w x gains);
  }

-- a Branch over them takes one number
pub few-over : (l : ℕ) (es : List Node) (w x : View) (e : Node) → IsBranchOf l es e → IsMadeFrom es es w x e → length x.taken ≡ length w.taken + 1
few-over l es w x e branch made = omega (arith, made.took, nodes-edges e, ap nodes_of_all (children-branch e l es branch))

-- ---- refusals
pub refused-over : (size : ℕ) (error : NodeError) (v w x : View) (es : List Node) → Trades v.holds [] es w.holds → GainedNodes v w → IsRefusedFrom size es error w x → IsRefusedFrom size [] error v x
refused-over size error v w x es traded gained refused = record {
  traded = trade v.holds [] [] x.holds (λ f. omega (arith, traded.weighs f, refused.traded.weighs f));
  gained = gained-then v w x gained refused.gained;
  cause = cause-within size error v w x x gained refused.cause (gained-same x x refl);
  height = refused.height;
}

pub refused-undone : (size : ℕ) (error : NodeError) (v w x : View) (es : List Node) → Trades v.holds [] es w.holds → GainedNodes v w → IsCause size error v w → IsOfNoHeight error → Trades w.holds es [] x.holds → GainedNodes w x → IsRefusedFrom size [] error v x
refused-undone size error v w x es traded gained cause low back gone = record {
  traded = trade v.holds [] [] x.holds (λ f. omega (arith, traded.weighs f, back.weighs f));
  gained = gained-then v w x gained gone;
  cause = cause-within size error v v w x (gained-same v v refl) cause gone;
  height = low;
}

-- ---- results
pub both-ok : {T E : Type 0} → (r : Result T E) (A B C : T → Type 0) → ((x : T) → A x → B x → C x) → IfOk r A → IfOk r B → IfOk r C
both-ok (Ok x) A B C f a b = f x a b
both-ok (Err e) A B C f a b = tt
