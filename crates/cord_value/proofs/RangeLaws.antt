-- What a range of a cord's tree is, and leaves a worker with.
use Rattle.std.proofs.Common.{ℕ, zero, suc, ◌≡◌, ◌+◌, ◌-◌, ◌<◌, ◌≤◌, List, [], ◌∷◌, length, take, drop, sum_by, ◌⊎◌, inl, inr, refl, sym, ap, subst, ◌∙◌, arith, Bool, false, Option, Some, None, eqb, leb, ne_eqb}
use Rattle.std.specs.Prelude.{if◌then◌else◌, min, option_map, IsSome}
use Rattle.std.proofs.lemmas.Bool.{cases_lt, lt-leb, le-leb}
use Rattle.std.proofs.Math.Seq.{take-length}
use Rattle.std.proofs.lemmas.List.{length-take, length-drop, take_min}
use Rattle.std.proofs.Math.ListN.{drop_of_length-le}
use Rattle.node_forest.specs.Label.{Node}
use Rattle.tree_shapes.specs.Cords.{CordShape, IsCordShape, back_cut, cord_kept, front_step, level_in, range_step, small_inline, sum_of, without_sum}
use Rattle.tree_shapes.specs.Keep.{kept}
use Rattle.tree_shapes.specs.Shape.{Shape, level, length_of, IsNode, IsTree}
use Rattle.tree_shapes.proofs.CordLaws.{kept-low}
use Rattle.tree_shapes.proofs.KeepLaws.{if_false}
use Rattle.node_edges.specs.Roots.{below_sum}
use Rattle.node_edges.specs.Text.{text}
use Rattle.node_edges.specs.Trees.{shape_of, IsFilled, IsWellFormed}
use Rattle.node_edges.proofs.EdgeLaws.{length-shape}
use Rattle.node_edges.proofs.TextLaws.{length-whole}
use Rattle.pool_rule.specs.Trades.{Trades}
use Rattle.pool_rule.specs.Views.{View}
use Rattle.pool_rule.proofs.Trades.{trade}
use Rattle.node_pool.specs.Passes.{filled, drawn}
use Rattle.node_pool.specs.declared.refusals.NodeError.{NodeError}
use Rattle.node_pool.proofs.Gaining.{gained-drawn, gained-filled}
use Rattle.btree_node.specs.Made.{IsRefusedFrom}
use Rattle.btree_node.proofs.GainLaws.{gained-then, cause-within}
use Rattle.btree_cut.proofs.RootLaws.{front-kept}
use Rattle.cord_value.specs.Changes.{IsChange, IsCutRefused, IsFit, IsRefused}
use Rattle.cord_value.specs.declared.refusals.CordError.{CordError}
use Rattle.cord_value.specs.declared.refusals.CordError.TheVariants as cord
use Rattle.cord_value.specs.Forms.{IsKept}
use Rattle.cord_value.specs.Grown.{inline_cord, tree_cord, IsMadeBeside}
use Rattle.cord_value.specs.Ranges.{range_shape}
use Rattle.cord_value.specs.Views.{CordView, cord_shape, no_cord, IsTreeOf}
use Rattle.cord_value.proofs.Balances.{keeps-same}
use Rattle.cord_value.proofs.Growth.{kept-tree}
use Rattle.cord_value.proofs.Roots.{formed-of, formed-tree, below-formed, bare-formed}
use Rattle.cord_value.proofs.Shapes.{shape_with}
use Rattle.cord_value.proofs.SumLaws.{gained-nothing}

-- ---- what stands below
none-by : (e : Node) (n : ℕ) (o : Option Node) → IsWellFormed e → 0 < n → n ≤ e.0.length → below_sum e ≡ o → o ≡ None → ⊥
none-by e n o formed some within is none = absurd (omega (arith, (bare-formed e formed (is ∙ none)).empty, some, within))

-- something stands below a root with bytes
pub never-bare : (e : Node) (n : ℕ) → IsWellFormed e → 0 < n → n ≤ e.0.length → below_sum e ≡ None → ⊥
never-bare e n formed some within none = none-by e n (below_sum e) formed some within refl none

-- ---- shapes
pub range-below : (start n : ℕ) (e t : Node) → IsWellFormed e → below_sum e ≡ Some t → range_shape start n e ≡ Some (kept (shape_of t) start n)
range-below start n e t formed is = ap (range_step start n) (below-formed e t formed is).shape

kept-large : (n : ℕ) (o : Option Shape) → 15 < n → small_inline n o ≡ shape_with n o
kept-large n o long = ap (shape_with n) (if_false (leb n 15) None o (lt-leb n 15 long))

kept-few : (n : ℕ) (o : Option Shape) → n ≤ 15 → small_inline n o ≡ shape_with n None
kept-few n o few = ap (λ (b : Bool). shape_with n (if b then None else o)) (le-leb n 15 few)

-- nothing is shortened: a range at the front
front-any : (m : ℕ) (sum : Option ℕ) (t : Shape) → IsNode (level t) t → 0 < m → m ≤ length_of t → front_step false m sum (Some t) ≡ range_step 0 m (Some t)
front-any m None t node some fits = ap (λ (s : Shape). Some s) (sym (front-kept t m node some fits))
front-any m (Some value) t node some fits = refl

front-below : (m : ℕ) (e : Node) (o : Option Node) → IsWellFormed e → 0 < m → m ≤ e.0.length → below_sum e ≡ o
    → front_step false m (sum_of (Some (shape_of e))) (without_sum (Some (shape_of e))) ≡ range_shape 0 m e
front-below m e None formed some fits is = absurd (never-bare e m formed some fits is)
front-below m e (Some t) formed some fits is =
    let b = below-formed e t formed is in
    ap (front_step false m (sum_of (Some (shape_of e)))) b.shape
    ∙ (front-any m (sum_of (Some (shape_of e))) (shape_of t) b.tree.node some (omega (arith, fits, b.long, length-shape t)) ∙ sym (ap (range_step 0 m) b.shape))

front-in : (m : ℕ) (bytes : List ℕ) (tree : Option Node) → IsTreeOf bytes tree → 15 < m → m ≤ length bytes
    → front_step false m (sum_of (option_map shape_of tree)) (without_sum (option_map shape_of tree)) ≡ range_step 0 m (without_sum (option_map shape_of tree))
front-in m bytes None formed long fits = absurd (omega (arith, formed, long, fits))
front-in m bytes (Some e) formed long fits =
    front-below m e (below_sum e) formed.0 (omega (arith, long)) (omega (arith, fits, ap length formed.1, length-whole e formed.0)) refl

back-by : (m : ℕ) (bytes : List ℕ) (tree : Option Node) → IsTreeOf bytes tree → m ≤ length bytes → (15 < m) ⊎ (m ≤ 15)
    → small_inline m (front_step false m (sum_of (option_map shape_of tree)) (without_sum (option_map shape_of tree))) ≡ small_inline m (range_step 0 m (without_sum (option_map shape_of tree)))
back-by m bytes tree formed fits (inl long) = ap (small_inline m) (front-in m bytes tree formed long fits)
back-by m bytes tree formed fits (inr few) = kept-few m _ few ∙ sym (kept-few m _ few)

-- a cut at the back keeps a range at the front
pub back-kept : (n : ℕ) (c : CordView) → IsTreeOf c.bytes c.tree → 0 < n → back_cut false n (cord_shape c) ≡ cord_kept 0 (length c.bytes - n) (cord_shape c)
back-kept n c formed some =
    if_false (eqb n 0) (cord_shape c) _ (ne_eqb n 0 (λ z. absurd (omega (arith, z, some))))
    ∙ back-by (length c.bytes - n) c.bytes c.tree formed (omega arith) (cases_lt 15 (length c.bytes - n))

-- what a cut at the front leaves is all that comes behind
pub rest-all : (xs : List ℕ) (n : ℕ) → take (length xs - n) (drop n xs) ≡ drop n xs
rest-all xs n = ap (λ (i : ℕ). take i (drop n xs)) (sym (length-drop n xs)) ∙ take-length (drop n xs)

-- only a position behind the end is refused as one
pub cut-refused : (size limit n : ℕ) (old : CordView) (made : CordShape) (x : CordError) (v w : View) → 0 < n → n ≤ length old.bytes → IsRefused size limit old.tree made x v w
    → IsCutRefused size limit n old made x v w
cut-refused size limit n old made (cord.Position asked end) v w some within r = absurd r
cut-refused size limit n old made (cord.LengthLimit asked) v w some within r = (some, within, r)
cut-refused size limit n old made (cord.HeightLimit height) v w some within r = (some, within, r)
cut-refused size limit n old made (cord.PassLimit found) v w some within r = (some, within, r)
cut-refused size limit n old made (cord.NoNumber seen) v w some within r = (some, within, r)
cut-refused size limit n old made (cord.NoReleaser used) v w some within r = absurd r
cut-refused size limit n old made cord.Memory v w some within r = (some, within, r)

-- how many bytes a range has
pub range-long : (xs : List ℕ) (start n : ℕ) → start + n ≤ length xs → length (take n (drop start xs)) ≡ n
range-long xs start n within = omega (arith, length-take n (drop start xs), length-drop start xs, within)

pub range-shape : (start n : ℕ) (e new : Node) → 15 < n → length (text new) ≡ n → range_shape start n e ≡ Some (shape_of new) → cord_shape (tree_cord new) ≡ cord_kept start n (cord_shape (tree_cord e))
range-shape start n e new long size is =
    ap (λ (k : ℕ). shape_with k (Some (shape_of new))) size ∙ (ap (shape_with n) (sym is) ∙ sym (kept-large n (range_shape start n e) long))

cord-formed : (e : Node) → IsTreeOf (text e) (Some e) → IsCordShape (cord_shape (tree_cord e))
cord-formed e formed = (formed.0.root, omega (arith, length-shape e, length-whole e formed.0), formed.2)

low-range : (m : ℕ) → m ≤ 12 → 12 < m → ⊥
low-range m low high = absurd (omega (arith, low, high))

-- a range is no longer than a cord may be, and no higher than its tree
pub fit-range : (start n : ℕ) (e : Node) (holds : List Node) → IsKept holds e → start + n ≤ e.0.length → IsFit (cord_kept start n (cord_shape (tree_cord e)))
fit-range start n e holds kept_is within =
    let c = cord_shape (tree_cord e) in
    (omega (arith, kept_is.short, within), low-range (level_in (cord_kept start n c).tree) (kept-low start n c (cord-formed e (formed-of e holds kept_is)) (omega (arith, within, length-whole e kept_is.formed))))

pub tree-range : (start n : ℕ) (e t : Node) → 15 < n → IsWellFormed e → below_sum e ≡ Some t → IsSome (cord_kept start n (cord_shape (tree_cord e))).tree
tree-range start n e t long formed is =
    subst (λ (c : CordShape). IsSome c.tree) (sym (kept-large n (range_shape start n e) long ∙ ap (shape_with n) (range-below start n e t formed is))) refl

tree-by : (start n : ℕ) (e : Node) (o : Option Node) → 15 < n → n ≤ e.0.length → IsWellFormed e → below_sum e ≡ o → IsSome (cord_kept start n (cord_shape (tree_cord e))).tree
tree-by start n e None long within formed is = absurd (never-bare e n formed (omega (arith, long)) within is)
tree-by start n e (Some t) long within formed is = tree-range start n e t long formed is

pub some-range : (start n : ℕ) (e : Node) → 15 < n → start + n ≤ e.0.length → IsWellFormed e → IsSome (cord_kept start n (cord_shape (tree_cord e))).tree
some-range start n e long within formed = tree-by start n e (below_sum e) long (omega (arith, within)) formed refl

-- ---- cords
-- a new tree of a range
pub range-formed : (e : Node) (n : ℕ) → IsTree (shape_of e) × IsFilled e → 15 < n → length (text e) ≡ n → IsTreeOf (text e) (Some e)
range-formed e n tree long size = (formed-tree e tree.0 tree.1, refl, inl (omega (arith, long, size)))

pub range-kept : (holds : List Node) (e : Node) (n : ℕ) → holds ≡ e ∷ [] → IsTree (shape_of e) × IsFilled e → 15 < n → n ≤ 2147483647 → length (text e) ≡ n → IsKept holds e
range-kept holds e n is tree long short size = kept-tree e holds is tree.0 tree.1 (omega (arith, long, size)) (omega (arith, short, size))

-- a few bytes of a cord are an inline cord
pub changed-few : (limit most : ℕ) (xs : List ℕ) (v : View) → length xs ≤ 15 → IsChange limit most no_cord (inline_cord xs) v v
changed-few limit most xs v few = record { formed = few; numbers = []; few = omega arith; keeps = keeps-same limit v v refl }

-- both clamped to what there is
pub clamped : (xs : List ℕ) (pos n start count : ℕ) → start ≡ min pos (length xs) → count ≡ min n (length xs - start) → take count (drop start xs) ≡ take n (drop pos xs)
clamped xs pos n start count start_is count_is =
    let same : count ≡ min n (length (drop start xs)) = omega (arith, count_is, length-drop start xs) in
    ap (λ (i : ℕ). take i (drop start xs)) same ∙ (take_min n (drop start xs) ∙ ap (take n) (dropped xs pos start start_is))
  where
    dropped : (xs : List ℕ) (pos start : ℕ) → start ≡ min pos (length xs) → drop start xs ≡ drop pos xs
    dropped [] pos start is = drop_of_length-le [] (omega arith) ∙ sym (drop_of_length-le [] (omega arith))
    dropped xs zero start is = let none : start ≡ 0 = omega (arith, is) in ap (λ (i : ℕ). drop i xs) none
    dropped (x ∷ xs) (suc pos) start is = let same : start ≡ suc (min pos (length xs)) = omega (arith, is) in ap (λ (i : ℕ). drop i (x ∷ xs)) same ∙ dropped xs pos (min pos (length xs)) refl

-- ---- steps between
-- a tree was drawn before and filled in again after
pub made-between : (a b c d p : View) (e new : Node) → p.holds ≡ e ∷ [] → b ≡ drawn a p → Trades a.holds [] p.holds b.holds → IsMadeBeside b c new → d ≡ filled e c → Trades c.holds (e ∷ []) [] d.holds → IsMadeBeside a d new
made-between a b c d p e new one drawn_is came m filled_is went = record {
  traded = trade a.holds [] (new ∷ []) d.holds (λ f. omega (arith, came.weighs f, m.traded.weighs f, went.weighs f, ap (sum_by f) one));
  gained = gained-then a b d (gained-nothing a b (gained-drawn a b p drawn_is)) (gained-then b c d m.gained (gained-nothing c d (gained-filled c d e filled_is)));
}

pub refused-between : (size : ℕ) (x : NodeError) (a b c d p : View) (e : Node) → p.holds ≡ e ∷ [] → b ≡ drawn a p → Trades a.holds [] p.holds b.holds → IsRefusedFrom size [] x b c → d ≡ filled e c → Trades c.holds (e ∷ []) [] d.holds
    → IsRefusedFrom size [] x a d
refused-between size x a b c d p e one drawn_is came r filled_is went =
    let before = gained-nothing a b (gained-drawn a b p drawn_is) in
    let after = gained-nothing c d (gained-filled c d e filled_is) in
    record {
      traded = trade a.holds [] [] d.holds (λ f. omega (arith, came.weighs f, r.traded.weighs f, went.weighs f, ap (sum_by f) one));
      gained = gained-then a b d before (gained-then b c d r.gained after);
      cause = cause-within size x a b c d before r.cause after;
      height = r.height;
    }

pub took-between : (a b c d p : View) (e : Node) (most : ℕ) → b ≡ drawn a p → length c.taken ≤ length b.taken + most → d ≡ filled e c → length d.taken ≤ length a.taken + most
took-between a b c d p e most drawn_is few filled_is = omega (arith, few, ap (λ (z : View). length z.taken) drawn_is, ap (λ (z : View). length z.taken) filled_is)
