-- What a shared tree at a side makes of a cord's shape, and leaves a worker with.
use Rattle.std.proofs.Common.{ℕ, ◌≡◌, ◌+◌, ◌-◌, ◌<◌, ◌≤◌, List, [], ◌∷◌, ◌++◌, length, sum_by, refl, sym, ap, subst, ◌∙◌, arith, append-nil, inl, Bool, true, false, eqb, eq-eqb, ne_eqb, Option, Some, None}
use Rattle.std.specs.List.{All}
use Rattle.std.specs.Prelude.{IsSome, Result, Ok, Err, IfOk}
use Rattle.std.proofs.lemmas.Bool.{eqb-true, le-leb, lt-leb}
use Rattle.std.proofs.lemmas.List.{length-append}
use Rattle.std.proofs.lemmas.List.Sums.{sum_by-append}
use Rattle.std.proofs.lemmas.List.Elements.{All-cons, All-nil}
use mathlib.Core.Logic.{dite}
use native.Mathlib.Decide.{ℕ_discrete}
use Rattle.node_forest.specs.declared.side.Side.{Side}
use Rattle.node_forest.specs.declared.side.Side.TheVariants.{Front, Back}
use Rattle.node_forest.specs.Label.{Node, number}
use Rattle.tree_shapes.specs.Cords.{CordShape, level_in, rooted, shared_step, with_bytes_added, with_cord_added, without_sum}
use Rattle.tree_shapes.specs.Flats.{flat_shape}
use Rattle.tree_shapes.specs.Growth.{added, beside, wrapped}
use Rattle.tree_shapes.specs.Merge.{across, joined}
use Rattle.tree_shapes.specs.Room.{room_at, IsRooted}
use Rattle.tree_shapes.specs.Shape.{Shape, level, IsNode, IsTree}
use Rattle.tree_shapes.proofs.KeepLaws.{if_false, if_true}
use Rattle.tree_shapes.proofs.MergeLaws.{joins}
use Rattle.tree_shapes.proofs.FlatLaws.{flat-rooted, level-flat}
use Rattle.tree_shapes.proofs.PieceLaws.{IsPiece}
use Rattle.tree_shapes.proofs.RoomLaws.{with_all-high, with_all-level}
use Rattle.node_edges.specs.Text.{text}
use Rattle.node_edges.specs.Trees.{shape_of, IsFilled, IsWellFormed}
use Rattle.pool_rule.specs.Gains.{no_gain, gain_then}
use Rattle.pool_rule.specs.Notes.{Count}
use Rattle.pool_rule.specs.Trades.{HasHolds, SameHolds, Stands, Trades}
use Rattle.pool_rule.specs.Views.{View, sharing}
use Rattle.pool_rule.proofs.Gains.{gained-then, saw-within}
use Rattle.pool_rule.proofs.Trades.{trade}
use Rattle.node_pool.specs.Passes.{filled, drawn}
use Rattle.node_pool.specs.declared.refusals.NodeError.{NodeError}
use Rattle.node_pool.specs.declared.refusals.NodeError.TheVariants as node
use Rattle.node_pool.proofs.Gaining.{gained-drawn, gained-filled}
use Rattle.node_pool.specs.Finishes.{IsFinished}
use Rattle.flat_nodes.specs.Flats.{IsAdded}
use Rattle.btree_node.specs.Made.{IsLeftAlone, IsMadeFrom, IsRefusedFrom}
use Rattle.btree_node.proofs.GainLaws.{gained-finished, gained-shared}
use Rattle.btree_node.proofs.GainLaws.{gained-then as nodes-then}
use Rattle.btree_node.proofs.MadeLaws.{refused-then, took-finished}
use Rattle.btree_edit.proofs.StepLaws.{gained-added as flat-nodes}
use Rattle.cord_value.specs.Changes.{IsChange, IsRefused}
use Rattle.cord_value.specs.Grown.{inline_cord, tree_cord, IsMadeBeside}
use Rattle.cord_value.specs.Joined.{joined_to, shared_shape}
use Rattle.cord_value.specs.Refusals.{refusal_of, AreCountsOf, IsBalanced}
use Rattle.cord_value.specs.Views.{CordView, cord_shape, passes_of, IsTreeOf}
use Rattle.cord_value.specs.Workers.{AreBelow, Keeps}
use Rattle.cord_value.specs.declared.refusals.CordError.{CordError}
use Rattle.cord_value.specs.declared.refusals.CordError.TheVariants as cord
use Rattle.cord_value.proofs.Roots.{formed-tree, IsBare, IsBelow}
use Rattle.cord_value.proofs.SumLaws.{rooted-root}

-- ---- shapes
pub joined-below : (side : Side) (e t x : Node) → IsBelow e t → joined side (shape_of t) (shape_of x) ≡ joined_to side (without_sum (Some (shape_of e))) (shape_of x)
joined-below side e t x b = sym (ap (λ (o : Option Shape). joined_to side o (shape_of x)) b.shape)

pub joined-bare : (side : Side) (e x : Node) → IsBare e → shape_of x ≡ joined_to side (without_sum (Some (shape_of e))) (shape_of x)
joined-bare side e x b = sym (ap (λ (o : Option Shape). joined_to side o (shape_of x)) b.shape)

-- a cord's tree with another at a side
pub shape-joined : (side : Side) (e x new : Node) → IsWellFormed e → shape_of new ≡ joined_to side (without_sum (Some (shape_of e))) (shape_of x)
    → length (text new) ≡ length (text e) + length (text x) → cord_shape (tree_cord new) ≡ shared_shape side x (tree_cord e)
shape-joined side e x new formed shape long =
    let whole : shape_of new ≡ joined_to side (rooted (length (text e)) (without_sum (Some (shape_of e)))) (shape_of x) =
    shape ∙ sym (ap (λ (o : Option Shape). joined_to side o (shape_of x)) (rooted-root e formed)) in
    λ i. record { size = long i; tree = Some (whole i) }

pub level-joined : (side : Side) (e x : Node) → IsWellFormed e → level_in (shared_shape side x (tree_cord e)).tree ≡ level (joined_to side (without_sum (Some (shape_of e))) (shape_of x))
level-joined side e x formed = ap (λ (o : Option Shape). level (joined_to side o (shape_of x))) (rooted-root e formed)

joined-step : (side : Side) (o : Option Shape) (x : Shape) → shared_step side o (Some x) ≡ Some (joined_to side o x)
joined-step side None x = refl
joined-step side (Some t) x = refl

-- a source of few bytes, and of more
pub few-copied : (fills : Bool) (side : Side) (source c : CordShape) → source.size ≤ 511 → with_cord_added fills side source c ≡ with_bytes_added fills side source.size c
few-copied fills side source c few = if_true _ _ _ (le-leb source.size 511 few)

pub more-shared : (fills : Bool) (side : Side) (e t : Node) (c : CordView) → IsBelow e t → 511 < length (text e) → with_cord_added fills side (cord_shape (tree_cord e)) (cord_shape c) ≡ shared_shape side t c
more-shared fills side e t c b more =
    let own = rooted (length c.bytes) (without_sum (cord_shape c).tree) in
    if_false _ _ _ (lt-leb (length (text e)) 511 more)
    ∙ (λ i. record { size = length c.bytes + length (b.same i); tree = (ap (shared_step side own) b.shape ∙ joined-step side own (shape_of t)) i })

-- ---- texts
pub beside-nothing : (side : Side) (a b : List ℕ) → a ≡ [] → b ≡ beside side a b
beside-nothing Front a b none = sym (ap (λ (z : List ℕ). b ++ z) none ∙ append-nil b)
beside-nothing Back a b none = sym (ap (λ (z : List ℕ). z ++ b) none)

-- ---- heights
pub never-high : (s t : Shape) → s ≡ t → level s ≤ 12 → 12 < level t → ⊥
never-high s t is low high = absurd (omega (arith, low, high, ap level is))

-- what stands beside a flat
module _ (side : Side) (n : ℕ) (x : Node) (some : 0 < n) (few : n ≤ 4083) (tree : IsTree (shape_of x)) where
  piece : IsPiece n
  piece = record { some = some; few = few }

  x-rooted : IsRooted (shape_of x)
  x-rooted = record { node = tree.node; wide = tree.wide }

  pub flat-low : level (shape_of x) < 12 → 12 < level (joined side (flat_shape n) (shape_of x)) → ⊥
  flat-low low high =
      let j = joins side (flat_shape n) (shape_of x) (flat-rooted n piece) x-rooted in
      absurd (omega (arith, high, j.rises, low, level-flat n))

  flat-added : level (shape_of x) ≡ 12 → joined side (flat_shape n) (shape_of x) ≡ added (across side) (shape_of x) (flat_shape n)
  unfolding level
  flat-added at = if_false _ _ _ (lt-leb (level (shape_of x)) 0 (omega (arith, at)))

  flat-room : room_at (across side) (level (shape_of x) + 0) (wrapped 0 (shape_of x)) ≡ room_at (across side) (level (shape_of x)) (shape_of x)
  unfolding wrapped
  flat-room = ap (λ (k : ℕ). room_at (across side) k (shape_of x)) (omega arith)

  flat-one : All (IsNode 0) (flat_shape n ∷ [])
  flat-one = All-cons (IsNode 0) (flat_shape n) [] (subst (λ (k : ℕ). IsNode k (flat_shape n)) (level-flat n) (flat-rooted n piece).node) (All-nil _)

  pub flat-high : level (shape_of x) ≡ 12 → room_at (across side) (level (shape_of x)) (shape_of x) ≡ 0 → 12 < level (joined side (flat_shape n) (shape_of x))
  flat-high at none =
      omega (arith, at, ap level (flat-added at), with_all-high (across side) 0 (shape_of x) (flat_shape n ∷ []) tree.node flat-one (omega (arith, flat-room, none)))

  pub flat-fits : level (shape_of x) ≡ 12 → 0 < room_at (across side) (level (shape_of x)) (shape_of x) → 12 < level (joined side (flat_shape n) (shape_of x)) → ⊥
  flat-fits at room high =
      absurd (omega (
        arith,
        high,
        at,
        ap level (flat-added at),
        with_all-level (across side) 0 (shape_of x) (flat_shape n ∷ []) tree.node flat-one (record { room = omega (arith, flat-room, room); least = λ i is. absurd (omega (arith, is)) }),
      ))

-- ---- refused
-- a tree that was drawn fills its pass again
pub refused-alone : (size limit : ℕ) (x : NodeError) (made : CordShape) (s : Shape) (e : Node) (v a b c p : View) → made.size ≤ 2147483647 → IsSome made.tree → level_in made.tree ≡ level s → a ≡ drawn v p
    → IsLeftAlone size s x a b → (12 < level s → x ≡ node.HeightLimit 12) → c ≡ filled e b → IsRefused size limit (Some e) made (refusal_of x) v c
refused-alone size limit (node.NoNumber seen) made s e v a b c p short some at drawn_is alone high filled_is = (
  (short, λ up. absurd (differs (high (omega (arith, up, at))))),
  some,
  alone.cause.0,
  saw-within size no_gain no_gain v a b c (gained-drawn v a p drawn_is) alone.cause.1 (gained-filled b c e filled_is),
)
  where
    differs : node.NoNumber seen ≡ node.HeightLimit 12 → ⊥
    differs is = absurd (cc)
refused-alone size limit (node.HeightLimit height) made s e v a b c p short some at drawn_is alone high filled_is = (alone.cause.0, short, omega (arith, alone.cause.1, at))
refused-alone size limit node.Memory made s e v a b c p short some at drawn_is alone high filled_is = tt

-- ---- beside another cord's tree, which is drawn at first and fills its pass at last
pub stands-drawn : (v p a : List Node) (t : Node) → Stands (v ++ p) t → Trades v [] p a → Stands a t
stands-drawn v p a t s came = record {
  root = s.root;
  held = record { weighs = λ f. omega (arith, s.held.weighs f, came.weighs f, sum_by-append f v p) };
  within = s.within;
}

pub stands-more : (v p : List Node) (t : Node) → Stands v t → Stands (v ++ p) t
stands-more v p t s = record {
  root = s.root;
  held = record { weighs = λ f. omega (arith, s.held.weighs f, sum_by-append f v p) };
  within = s.within;
}

module _ (limit : ℕ) (e : Node) (v a b c p : View) (one : p.holds ≡ e ∷ []) (drawn_is : a ≡ drawn v p) (came : Trades v.holds [] p.holds a.holds) (filled_is : c ≡ filled e b) (went : Trades b.holds (e ∷ []) [] c.holds) where
  same-around : SameHolds a.holds b.holds → SameHolds v.holds c.holds
  same-around same = trade v.holds [] [] c.holds (λ f. omega (arith, came.weighs f, same.weighs f, went.weighs f, ap (sum_by f) one))

  pub keeps-around : (numbers : List ℕ) (new gone : ℕ) → Keeps limit numbers new gone a b → Keeps limit numbers new gone v c
  keeps-around numbers new gone k = record {
    holds = same-around k.holds;
    gain = gain_then (gain_then no_gain k.gain) no_gain;
    gained = gained-then (gain_then no_gain k.gain) no_gain v b c (gained-then no_gain k.gain v a b (gained-drawn v a p drawn_is) k.gained) (gained-filled b c e filled_is);
    taken = append-nil k.gain.taken ∙ k.taken;
    made = ap (λ (cs : List Count). length cs) (append-nil k.gain.counts) ∙ k.made;
    below = subst (AreBelow limit) (sym (append-nil k.gain.counts)) k.below;
    ended = omega (arith, k.ended);
    used = append-nil k.gain.used ∙ k.used;
    looks = append-nil k.gain.looks ∙ k.looks;
  }

  pub change-around : (most : ℕ) (old new : CordView) → IsChange limit most old new a b → IsChange limit most old new v c
  change-around most old new k = record {
    formed = k.formed;
    numbers = k.numbers;
    few = k.few;
    keeps = keeps-around k.numbers (passes_of new.tree - passes_of old.tree) (passes_of old.tree - passes_of new.tree) k.keeps;
  }

  pub refused-around : (size : ℕ) (old : Option Node) (made : CordShape) (x : CordError) → IsRefused size limit old made x a b → IsRefused size limit old made x v c
  refused-around size old made (cord.Position asked end) r = r
  refused-around size old made (cord.LengthLimit asked) r = r
  refused-around size old made (cord.HeightLimit height) r = r
  refused-around size old made (cord.PassLimit found) r = r
  refused-around size old made (cord.NoNumber seen) r = (r.0, r.1, r.2, saw-within size no_gain no_gain v a b c (gained-drawn v a p drawn_is) r.3 (gained-filled b c e filled_is))
  refused-around size old made (cord.NoReleaser used) r = r
  refused-around size old made cord.Memory r = r

  pub balanced-around : (x : CordError) → IsBalanced limit x a b → IsBalanced limit x v c
  balanced-around x k = record {
    holds = same-around k.holds;
    gain = gain_then (gain_then no_gain k.gain) no_gain;
    gained = gained-then (gain_then no_gain k.gain) no_gain v b c (gained-then no_gain k.gain v a b (gained-drawn v a p drawn_is) k.gained) (gained-filled b c e filled_is);
    counts = subst (AreCountsOf limit x) (sym (append-nil k.gain.counts)) k.counts;
    ended = omega (arith, k.ended, ap (λ (cs : List Count). length cs) (append-nil k.gain.counts));
    used = append-nil k.gain.used ∙ k.used;
    looks = append-nil k.gain.looks ∙ k.looks;
  }

pub ok-same : {T E : Type 0} (r : Result T E) (A B : Type 0) → (A → B) → IfOk r (λ _. A) → IfOk r (λ _. B)
ok-same (Ok x) A B f a = f a
ok-same (Err x) A B f a = tt

pub formed-long : (e : Node) → IsTree (shape_of e) → IsFilled e → 15 < length (text e) → IsTreeOf (text e) (Some e)
formed-long e tree full long = (formed-tree e tree full, refl, inl long)

-- ---- an inline cord
-- without bytes it becomes the other tree
pub joined-none : (side : Side) (n : ℕ) (x : Node) → n ≡ 0 → shape_of x ≡ joined_to side (rooted n None) (shape_of x)
joined-none side n x zero = sym (ap (λ (k : ℕ). joined_to side (rooted k None) (shape_of x)) zero)

-- with bytes it becomes a flat first
pub joined-flat : (side : Side) (n : ℕ) (x : Node) → 0 < n → joined side (flat_shape n) (shape_of x) ≡ joined_to side (rooted n None) (shape_of x)
joined-flat side n x some = sym (ap (λ (o : Option Shape). joined_to side o (shape_of x)) (if_false (eqb n 0) None (Some (flat_shape n)) (ne_eqb n 0 (λ z. absurd (omega (arith, z, some))))))

pub flat-merged : (side : Side) (n : ℕ) (f x : Node) → 0 < n → shape_of f ≡ flat_shape n → joined side (shape_of f) (shape_of x) ≡ joined_to side (rooted n None) (shape_of x)
flat-merged side n f x some is = ap (λ (s : Shape). joined side s (shape_of x)) is ∙ joined-flat side n x some

pub shape-bytes : (side : Side) (xs : List ℕ) (x new : Node) → shape_of new ≡ joined_to side (rooted (length xs) None) (shape_of x) → length (text new) ≡ length xs + length (text x)
    → cord_shape (tree_cord new) ≡ shared_shape side x (inline_cord xs)
shape-bytes side xs x new shape long = λ i. record { size = long i; tree = Some (shape i) }

abbrev pub IsHigh : Side → ℕ → Node → Type 0
IsHigh side n x = 12 < level (joined_to side (rooted n None) (shape_of x))

pub low-none : (side : Side) (n : ℕ) (x : Node) → n ≡ 0 → IsTree (shape_of x) → IsHigh side n x → ⊥
low-none side n x zero tree high = absurd (omega (arith, high, ap level (joined-none side n x zero), tree.low))

pub low-flat : (side : Side) (n : ℕ) (x : Node) → n ≤ 15 → IsTree (shape_of x) → level (shape_of x) < 12 → IsHigh side n x → ⊥
low-flat side n x few tree low high = dite (ℕ_discrete n 0)
    (λ z. low-none side n x z tree high)
    (λ nz. let some : 0 < n = omega (arith, nz) in
    flat-low side n x some (omega (arith, few)) tree low (omega (arith, high, ap level (joined-flat side n x some))))

pub high-full : (side : Side) (n : ℕ) (x : Node) → 0 < n → n ≤ 15 → IsTree (shape_of x) → level (shape_of x) ≡ 12 → room_at (across side) (level (shape_of x)) (shape_of x) ≡ 0 → IsHigh side n x
high-full side n x some few tree at none = omega (arith, flat-high side n x some (omega (arith, few)) tree at none, ap level (joined-flat side n x some))

pub low-room : (side : Side) (n : ℕ) (x : Node) → 0 < n → n ≤ 15 → IsTree (shape_of x) → level (shape_of x) ≡ 12 → 0 < room_at (across side) (level (shape_of x)) (shape_of x) → IsHigh side n x → ⊥
low-room side n x some few tree at room high = flat-fits side n x some (omega (arith, few)) tree at room (omega (arith, high, ap level (joined-flat side n x some)))

-- ---- a flat that only stands in the new tree
pub beside-flat : (size : ℕ) (v a b z : View) (flat new : Node) (kept : List Node) → IsAdded size v a flat → Trades v.holds [] (flat ∷ []) a.holds → IsMadeFrom [] kept a b new
    → Trades b.holds (flat ∷ []) [] z.holds → IsFinished flat b z → IsMadeBeside v z new
beside-flat size v a b z flat new kept added came made went gone = record {
  traded = trade v.holds [] (new ∷ []) z.holds (λ f. omega (arith, came.weighs f, made.traded.weighs f, went.weighs f));
  gained = nodes-then v b z (nodes-then v a b (flat-nodes size v a flat added) made.gained) (gained-finished flat b z gone);
}

pub few-flat : (size : ℕ) (v a b z : View) (flat : Node) → IsAdded size v a flat → length b.taken ≤ length a.taken + 13 → IsFinished flat b z → length z.taken ≤ length v.taken + 32
few-flat size v a b z flat added few gone =
    omega (arith, few, took-finished flat b z gone, ap (λ (u : View). length u.taken) added.view, length-append v.taken (number flat ∷ []))

pub held-flat : (v a b : List Node) (flat new : Node) → Trades v [] (flat ∷ []) a → Trades a [] (new ∷ []) b → HasHolds b (flat ∷ [])
held-flat v a b flat new came made = record { weighs = λ f. omega (arith, came.weighs f, made.weighs f) }

pub held-same : (v a b : List Node) (flat : Node) → Trades v [] (flat ∷ []) a → SameHolds a b → HasHolds b (flat ∷ [])
held-same v a b flat came same = record { weighs = λ f. omega (arith, came.weighs f, same.weighs f) }

alone-low : (size : ℕ) (s : Shape) (x : NodeError) (v w : View) → IsLeftAlone size s x v w → (12 < level s → ⊥) → IsRefusedFrom size [] x v w
alone-low size s (node.NoNumber seen) v w r low = record { traded = r.holds; gained = r.gained; cause = r.cause; height = tt }
alone-low size s (node.HeightLimit height) v w r low = absurd (low r.cause.1)
alone-low size s node.Memory v w r low = record { traded = r.holds; gained = r.gained; cause = tt; height = tt }

pub refused-flat : (size : ℕ) (s : Shape) (x : NodeError) (v a b z : View) (flat : Node) → IsAdded size v a flat → Trades v.holds [] (flat ∷ []) a.holds → IsLeftAlone size s x a b → (12 < level s → ⊥)
    → Trades b.holds (flat ∷ []) [] z.holds → IsFinished flat b z → IsRefusedFrom size [] x v z
refused-flat size s x v a b z flat added came r low went gone =
    refused-then size x v a b z (flat ∷ []) [] came (flat-nodes size v a flat added) (alone-low size s x a b r low) (trade b.holds (flat ∷ []) [] z.holds went.weighs) (gained-finished flat b z gone)

-- ---- room
pub same-room : (s t : Side) (k l : ℕ) (x : Shape) → s ≡ t → k ≡ l → room_at s k x ≡ room_at t l x
same-room s t k l x p q = λ i. room_at (p i) (q i) x

pub no-room : (n : ℕ) → eqb n 0 ≡ true → n ≡ 0
no-room n e = eqb-true n 0 e

pub some-room : (n : ℕ) → eqb n 0 ≡ false → 0 < n
some-room n e = dite (ℕ_discrete n 0)
    (λ z. absurd (apart (eqb n 0) (eq-eqb n 0 z) e))
    (λ nz. omega (arith, nz))
  where
    apart : (b : Bool) → b ≡ true → b ≡ false → ⊥
    apart b t f = cc

-- ---- a share
pub made-shared : (t e : Node) (v w : View) → e ≡ t → w ≡ sharing t v → Trades v.holds [] (t ∷ []) w.holds → IsMadeBeside v w e
made-shared t e v w is shared came = record { traded = subst (λ (z : Node). Trades v.holds [] (z ∷ []) w.holds) (sym is) came; gained = gained-shared t v w shared }
