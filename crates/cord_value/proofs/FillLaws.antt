-- Bytes in the room of the last flat: what the cord is then, and what looks leave of a call's promises.
use Rattle.std.proofs.Common.{ℕ, ◌≡◌, ◌+◌, ◌-◌, ◌<◌, ◌≤◌, List, [], ◌∷◌, ◌++◌, length, map, take, sum_by, refl, sym, ap, subst, ◌∙◌, arith, inl, inr, Option, Some, None, true, false, eqb, ne_eqb, append-nil}
use Rattle.std.specs.Prelude.{min, IsSome, ◌≢◌, ◌⊎◌}
use Rattle.std.proofs.lemmas.List.{length-append}
use Rattle.std.proofs.lemmas.List.Elements.{All-nil}
use Rattle.node_forest.specs.declared.kind.Kind.{Kind}
use Rattle.node_forest.specs.declared.kind.Kind.TheVariants as kinds
use Rattle.node_forest.specs.declared.side.Side.TheVariants.{Back}
use Rattle.node_forest.specs.Label.{Node}
use Rattle.node_forest.specs.Paths.{numbers_on}
use Rattle.node_edges.specs.Text.{text}
use Rattle.node_edges.specs.Trees.{shape_of, IsFilled, IsWellFormed}
use Rattle.node_edges.proofs.TextLaws.{length-whole}
use Rattle.tree_shapes.specs.Cords.{CordShape, bytes_step, filling_step, with_bytes_added, without_sum}
use Rattle.tree_shapes.specs.Filling.{last_room, last_filled, with_bytes_filling}
use Rattle.tree_shapes.specs.Flats.{flat_shape, with_bytes}
use Rattle.tree_shapes.specs.Growth.{with_all}
use Rattle.tree_shapes.specs.Shape.{Shape, level, IsTree}
use Rattle.tree_shapes.specs.Sums.{skipped_step, sum_step, sum_in}
use Rattle.tree_shapes.proofs.KeepLaws.{if_false}
use Rattle.tree_shapes.proofs.PieceLaws.{pieces-none}
use Rattle.tree_shapes.proofs.ShapeLaws.{root-is_tree}
use Rattle.pool_rule.specs.Gains.{Gain, no_gain, gain_then, Gained}
use Rattle.pool_rule.specs.Notes.{Look}
use Rattle.pool_rule.specs.Trades.{SameHolds, Trades}
use Rattle.pool_rule.specs.Views.{View, with_holds}
use Rattle.pool_rule.proofs.Gains.{gaining-none, gained-is, gained-then, gained-same, gained-holding, saw-within}
use Rattle.pool_rule.proofs.Trades.{trade, Trades-same}
use Rattle.node_pool.specs.Passes.{filled, drawn}
use Rattle.node_pool.proofs.Gaining.{gained-drawn, gained-filled}
use Rattle.flat_nodes.specs.Behind.{path_behind, filled_behind, shape_behind}
use Rattle.btree_node.specs.Lone.{found_lone_to, look_at, IsFoundShared}
use Rattle.cord_value.specs.Changes.{IsRefused}
use Rattle.cord_value.specs.Filling.{HasRoomBehind, IsFilledBehind, WasShared, HasLooked, IsGrownAfter, IsBalancedAfter}
use Rattle.cord_value.specs.Forms.{IsKept}
use Rattle.cord_value.specs.Grown.{tree_cord, IsGrown, IsGrowRefused}
use Rattle.cord_value.specs.Refusals.{IsBalanced}
use Rattle.cord_value.specs.Views.{CordView, cord_shape}
use Rattle.cord_value.specs.Workers.{Keeps}
use Rattle.cord_value.specs.declared.refusals.CordError.{CordError}
use Rattle.cord_value.specs.declared.refusals.CordError.TheVariants as cord
use Rattle.cord_value.proofs.Growth.{large}
use Rattle.cord_value.proofs.Roots.{formed-tree}
use Rattle.cord_value.proofs.Shapes.{shape_with}

-- ---- roots without a Sum
no-sum : (k : Kind) (s : Shape) → k ≢ kinds.Sum → (skipped_step k s ≡ Some s) × (sum_step k s.0.more ≡ None)
no-sum kinds.Flat s other = (refl, refl)
no-sum kinds.External s other = (refl, refl)
no-sum kinds.Part s other = (refl, refl)
no-sum kinds.Sum s other = absurd (other refl)
no-sum kinds.Branch s other = (refl, refl)

bare-shape : (e : Node) → e.0.kind ≢ kinds.Sum → (without_sum (Some (shape_of e)) ≡ Some (shape_of e)) × (sum_in (shape_of e) ≡ None)
unfolding shape_of
bare-shape e other = no-sum e.0.kind (shape_of e) other

pub bare-tree : (e : Node) → IsWellFormed e → e.0.kind ≢ kinds.Sum → IsTree (shape_of e)
unfolding shape_of
bare-tree e formed other = root-is_tree (shape_of e) other formed.root

pub bare-long : (e : Node) (holds : List Node) → IsKept holds e → e.0.kind ≢ kinds.Sum → 15 < e.0.length
bare-long e holds kept other = go kept.needed
  where
    go : (15 < e.0.length) ⊎ IsSome (sum_in (shape_of e)) → 15 < e.0.length
    go (inl long) = long
    go (inr some) = absurd (let none = subst (λ (o : Option ℕ). IsSome o) (bare-shape e other).1 some in cc)

-- ---- the rules' shape where the room is filled
none-more : (t : Shape) → with_bytes Back t 0 ≡ t
none-more t = ap (λ (ps : List ℕ). with_all Back t (map flat_shape ps)) pieces-none

filling-all : (t : Shape) (n : ℕ) → n ≤ last_room (level t) t → with_bytes_filling t n ≡ last_filled (level t) t n
filling-all t n fits =
    let first : min n (last_room (level t) t) ≡ n = omega (arith, fits) in
    let rest : n - min n (last_room (level t) t) ≡ 0 = omega (arith, first) in
    (λ i. with_bytes Back (last_filled (level t) t (first i)) (rest i)) ∙ none-more (last_filled (level t) t n)

filled-added : (n : ℕ) (e : Node) → HasRoomBehind n e → 15 < length (text e) + n → with_bytes_added true Back n (cord_shape (tree_cord e)) ≡ shape_with (length (text e) + n) (Some (shape_behind e n))
filled-added n e room long =
    let c = cord_shape (tree_cord e) in
    let s = shape_of e in
    let bare = bare-shape e room.bare in
    if_false (eqb n 0) c _ (ne_eqb n 0 (λ z. absurd (omega (arith, z, room.some))))
    ∙ (large (length (text e) + n) (bytes_step true Back n c (without_sum (Some s))) long
    ∙ ap (λ (t : Shape). shape_with (length (text e) + n) (Some t))
    (ap (bytes_step true Back n c) bare.0 ∙ (ap (λ (sum : Option ℕ). filling_step true Back sum s n) bare.1 ∙ filling-all s n room.fits)))

-- ---- a cord that was filled
gained-lone : (n : ℕ) (root : Node) (path : List ℕ) (v w : View) → w ≡ found_lone_to n root path v → Gained no_gain v w
gained-lone n root path v w is = gained-is no_gain v (found_lone_to n root path v) w is (gained-holding v v.holds (v.lone ++ take n (numbers_on root path)))

gained-held : (v w : View) → w ≡ with_holds v w.holds → Gained no_gain v w
gained-held v w is = gained-is no_gain v (with_holds v w.holds) w is (gained-holding v w.holds v.lone)

-- a tree was drawn from its pass, looks found all nodes on the way lone, its last flat was filled, and it is back
pub record IsFillOf (v w : View) : Type 0 where
  pub holds : SameHolds v.holds w.holds
  pub gained : Gained no_gain v w

pub fill-of : (n : ℕ) (e new : Node) (path : List ℕ) (v a b c w p : View) → p.holds ≡ e ∷ [] → a ≡ drawn v p → Trades v.holds [] p.holds a.holds → b ≡ found_lone_to n e path a → b.holds ≡ a.holds
    → c ≡ with_holds b c.holds → Trades b.holds (e ∷ []) (new ∷ []) c.holds → w ≡ filled new c → Trades c.holds (new ∷ []) [] w.holds → IsFillOf v w
fill-of n e new path v a b c w p one drawn_is came lone same held grew filled_is went = record {
  holds = trade v.holds [] [] w.holds (λ f. omega (arith, came.weighs f, grew.weighs f, went.weighs f, ap (sum_by f) same, ap (sum_by f) one));
  gained =
      gained-then no_gain no_gain v c w
      (gained-then no_gain no_gain v b c (gained-then no_gain no_gain v a b (gained-drawn v a p drawn_is) (gained-lone n e path a b lone)) (gained-held b c held))
      (gained-filled c w new filled_is);
}

keeps-fill : (limit : ℕ) (v w : View) → IsFillOf v w → Keeps limit [] 0 0 v w
keeps-fill limit v w fill = record {
  holds = fill.holds;
  gain = no_gain;
  gained = fill.gained;
  taken = refl;
  made = refl;
  below = All-nil _;
  ended = refl;
  used = refl;
  looks = refl;
}

pub filled-behind : (bytes : List ℕ) (e new : Node) (v w : View) → new ≡ filled_behind e bytes → IsFillOf v w → IsFilledBehind bytes e (Some new) v w
filled-behind bytes e new v w is fill = record { tree = ap (λ (t : Node). Some t) is; holds = fill.holds; gained = fill.gained }

pub grown-filled : (limit : ℕ) (bytes : List ℕ) (e new : Node) (holds : List Node) (v w : View) → IsKept holds e → HasRoomBehind (length bytes) e → IsTree (shape_of new) → IsFilled new
    → shape_of new ≡ shape_behind e (length bytes) → text new ≡ text e ++ bytes → IsFillOf v w → IsGrown limit Back (length bytes) (tree_cord e) (tree_cord new) v w
grown-filled limit bytes e new holds v w kept room tree full shape same fill =
    let n = length bytes in
    let size : length (text new) ≡ length (text e) + n = ap (λ (bs : List ℕ). length bs) same ∙ length-append (text e) bytes in
    let long : 15 < length (text e) + n = omega (arith, bare-long e holds kept room.bare, length-whole e kept.formed) in
    record {
      shape = inr (ap (λ (k : ℕ). shape_with k (Some (shape_of new))) size ∙ (ap (λ (s : Shape). shape_with (length (text e) + n) (Some s)) shape ∙ sym (filled-added n e room long)));
      formed = (formed-tree new tree full, refl, inl (omega (arith, long, size)));
      numbers = [];
      count = omega arith;
      keeps = keeps-fill limit v w fill;
    }

-- want of memory: the tree is back, as it was
pub fill-back : (n : ℕ) (e r : Node) (path : List ℕ) (v a b c w p : View) → p.holds ≡ e ∷ [] → a ≡ drawn v p → Trades v.holds [] p.holds a.holds → b ≡ found_lone_to n e path a → b.holds ≡ a.holds
    → r ≡ e → c ≡ b → w ≡ filled r c → Trades c.holds (r ∷ []) [] w.holds → IsFillOf v w
fill-back n e r path v a b c w p one drawn_is came lone same root stays filled_is went =
    fill-of n e r path v a b c w p one drawn_is came lone same
    (λ i. with_holds (stays i) c.holds)
    (trade b.holds (e ∷ []) (r ∷ []) c.holds (λ f. omega (arith, ap f root, ap (λ (z : View). sum_by f z.holds) stays)))
    filled_is went

pub balanced-fill : (limit : ℕ) (v w : View) → IsFillOf v w → IsBalanced limit cord.Memory v w
balanced-fill limit v w fill = record {
  holds = fill.holds;
  gain = no_gain;
  gained = fill.gained;
  counts = All-nil _;
  ended = refl;
  used = refl;
  looks = refl;
}

-- ---- looks first
pub looked-none : (v : View) → HasLooked v v
looked-none v = record { holds = Trades-same v.holds v.holds refl; looks = []; gained = gained-same v v refl }

pub grown-first : (limit n : ℕ) (old new : CordView) (v w : View) → IsGrown limit Back n old new v w → IsGrownAfter limit n old new v w
grown-first limit n old new v w grown = record { looked = v; first = looked-none v; grown = grown }

pub balanced-first : (limit : ℕ) (x : CordError) (v w : View) → IsBalanced limit x v w → IsBalancedAfter limit x v w
balanced-first limit x v w balanced = record { looked = v; first = looked-none v; balanced = balanced }

-- a look found another word than 1, and the tree is back
pub record IsSeenShared (e : Node) (v m : View) : Type 0 where
  pub depth : ℕ
  pub low : depth ≤ length (path_behind e)
  pub found : ℕ
  pub more : found ≢ 1
  pub holds : SameHolds v.holds m.holds
  pub gained : Gained (record no_gain { looks = look_at depth e (path_behind e) found v ∷ [] }) v m

gained-look : (l : Look) (lone : List ℕ) (v w : View) → w ≡ record v { lone = lone; looks = v.looks ++ l ∷ [] } → Gained (record no_gain { looks = l ∷ [] }) v w
gained-look l lone v w is = gained-is (record no_gain { looks = l ∷ [] }) v (record v { lone = lone; looks = v.looks ++ l ∷ [] }) w is (λ i. record (gaining-none v i) { lone = lone; looks = v.looks ++ l ∷ [] })

pub seen-shared : (d : ℕ) (e : Node) (path : List ℕ) (v a b m p : View) → path ≡ path_behind e → d ≤ length path → p.holds ≡ e ∷ [] → a ≡ drawn v p → Trades v.holds [] p.holds a.holds
    → IsFoundShared d e path a b → b.holds ≡ a.holds → m ≡ filled e b → Trades b.holds (e ∷ []) [] m.holds → IsSeenShared e v m
seen-shared d e path v a b m p way low one drawn_is came s same filled_is went =
    let l = look_at d e path s.found a in
    let all : Gained (record no_gain { looks = l ∷ [] }) v m =
    gained-then (gain_then no_gain (record no_gain { looks = l ∷ [] })) no_gain v b m
    (gained-then no_gain (record no_gain { looks = l ∷ [] }) v a b (gained-drawn v a p drawn_is) (gained-look l (a.lone ++ take d (numbers_on e path)) a b s.view))
    (gained-filled b m e filled_is) in
    let is : l ≡ look_at d e (path_behind e) s.found v = (λ i. look_at d e (way i) s.found (record v { holds = a.holds; shares = (drawn_is i).shares })) in
    record {
      depth = d;
      low = omega (arith, low, ap (λ (ps : List ℕ). length ps) way);
      found = s.found;
      more = s.more;
      holds = trade v.holds [] [] m.holds (λ f. omega (arith, came.weighs f, went.weighs f, ap (sum_by f) same, ap (sum_by f) one));
      gained = subst (λ (z : Look). Gained (record no_gain { looks = z ∷ [] }) v m) is all;
    }

pub looked-shared : (e : Node) (v m : View) → IsSeenShared e v m → HasLooked v m
looked-shared e v m seen = record { holds = seen.holds; looks = look_at seen.depth e (path_behind e) seen.found v ∷ []; gained = seen.gained }

was-shared : (g : Gain) (e : Node) (v m w : View) → IsSeenShared e v m → Gained g m w → g.looks ≡ [] → WasShared e v w
was-shared g e v m w seen then none = record {
  depth = seen.depth;
  low = seen.low;
  found = seen.found;
  more = seen.more;
  later = [];
  looks =
      ap (λ (z : View). z.looks) then
      ∙ ((λ i. m.looks ++ none i)
      ∙ (append-nil m.looks ∙ ap (λ (z : View). z.looks) seen.gained));
}

pub shared-grown : (limit n : ℕ) (e : Node) (new : CordView) (v m w : View) → IsSeenShared e v m → IsGrown limit Back n (tree_cord e) new m w → WasShared e v w
shared-grown limit n e new v m w seen grown = was-shared grown.keeps.gain e v m w seen grown.keeps.gained grown.keeps.looks

pub shared-balanced : (limit : ℕ) (x : CordError) (e : Node) (v m w : View) → IsSeenShared e v m → IsBalanced limit x m w → WasShared e v w
shared-balanced limit x e v m w seen balanced = was-shared balanced.gain e v m w seen balanced.gained balanced.looks

refused-after : (size limit : ℕ) (old : Option Node) (made : CordShape) (x : CordError) (v m w : View) → HasLooked v m → IsRefused size limit old made x m w → IsRefused size limit old made x v w
refused-after size limit old made (cord.Position asked end) v m w first r = absurd r
refused-after size limit old made (cord.LengthLimit asked) v m w first r = r
refused-after size limit old made (cord.HeightLimit height) v m w first r = r
refused-after size limit old made (cord.PassLimit found) v m w first r = r
refused-after size limit old made (cord.NoNumber seen) v m w first r = (r.0, r.1, r.2, saw-within size (record no_gain { looks = first.looks }) no_gain v m w w first.gained r.3 (gained-same w w refl))
refused-after size limit old made (cord.NoReleaser used) v m w first r = absurd r
refused-after size limit old made cord.Memory v m w first r = r

pub grow-refused-after : (size limit n : ℕ) (old : CordView) (x : CordError) (v m w : View) → HasLooked v m → IsGrowRefused size limit Back n old x m w → IsGrowRefused size limit Back n old x v w
grow-refused-after size limit n old x v m w first r = (r.0, refused-after size limit old.tree (with_bytes_added false Back n (cord_shape old)) x v m w first r.1)
