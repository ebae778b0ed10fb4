-- What bytes added to a cord make of its shape, and leave a worker with.
use Rattle.std.proofs.Common.{ℕ, ◌≡◌, ◌+◌, ◌-◌, ◌*◌, ◌<◌, ◌≤◌, ◌∷◌, List, [], length, sum_by, refl, sym, ap, subst, ◌∙◌, arith, inl, Bool, true, false, Option, Some, None, eqb, leb, ne_eqb, append-nil}
use Rattle.std.specs.Borrow.{Bor}
use Rattle.std.specs.Prelude.{if◌then◌else◌, option_map, IsSome, Result, Ok, Err, IfErr}
use Rattle.std.proofs.lemmas.Bool.{le-leb, lt-leb}
use Rattle.std.proofs.lemmas.List.{length-append}
use Rattle.std.proofs.lemmas.List.Elements.{All-nil}
use Rattle.node_forest.specs.declared.side.Side.{Side}
use Rattle.node_forest.specs.Label.{Node}
use Rattle.tree_shapes.specs.Cords.{CordShape, cord_of_bytes, inline_or, bytes_step, with_bytes_added, without_sum, NeedsHeight12}
use Rattle.tree_shapes.specs.Flats.{piece_count, new_shape, with_bytes}
use Rattle.tree_shapes.specs.Growth.{beside}
use Rattle.tree_shapes.specs.Shape.{Shape, level, IsTree}
use Rattle.tree_shapes.specs.Nodes as shapes
use Rattle.tree_shapes.proofs.FlatLaws.{new-low, new-twice}
use Rattle.tree_shapes.proofs.KeepLaws.{if_false}
use Rattle.node_edges.specs.Roots.{below_sum}
use Rattle.node_edges.specs.Text.{text}
use Rattle.node_edges.specs.Trees.{shape_of, IsFilled}
use Rattle.node_edges.proofs.TextLaws.{length-whole}
use Rattle.pool_rule.specs.Gains.{Gain, no_gain, gain_then}
use Rattle.pool_rule.specs.Trades.{HasHolds, Trades}
use Rattle.pool_rule.specs.Views.{View}
use Rattle.pool_rule.proofs.Gains.{gained-then, gained-same, saw-within}
use Rattle.pool_rule.proofs.Trades.{trade, Trades-same}
use Rattle.node_pool.specs.declared.refusals.NodeError.{NodeError}
use Rattle.node_pool.specs.declared.refusals.NodeError.TheVariants as node
use Rattle.node_pool.specs.Passes.{filled, drawn}
use Rattle.node_pool.proofs.Gaining.{gained-drawn, gained-filled}
use Rattle.btree_node.specs.Made.{node_gain, IsMadeFrom, IsLeftAlone}
use Rattle.btree_edit.proofs.PackLaws.{length-beside, nodes-shape}
use Rattle.cord_value.specs.Changes.{IsFit, IsRefused}
use Rattle.cord_value.specs.declared.refusals.CordError.{CordError}
use Rattle.cord_value.specs.declared.refusals.CordError.TheVariants as cord
use Rattle.cord_value.specs.Forms.{IsKept}
use Rattle.cord_value.specs.Grown.{grown_shape, inline_cord, tree_cord, IsCountFor, IsGrown, IsGrowRefused, IsMadeBeside}
use Rattle.cord_value.specs.Refusals.{refusal_of, IsMakeRefused, IsBalanced}
use Rattle.cord_value.specs.Views.{CordView, cord_shape, nodes_of, passes_of, IsTreeOf}
use Rattle.cord_value.specs.Workers.{IsReplaced, Keeps, KeepsCount}
use Rattle.cord_value.proofs.Roots.{formed-tree, IsBelow, IsBare}
use Rattle.cord_value.proofs.Balances.{AreGiven, keeps-same}
use Rattle.cord_value.proofs.Shapes.{shape_with}

-- ---- shapes
added-some : (side : Side) (n : ℕ) (c : CordShape) → 0 < n → with_bytes_added false side n c ≡ inline_or (c.size + n) (bytes_step false side n c (without_sum c.tree))
added-some side n c some = if_false (eqb n 0) c _ (ne_eqb n 0 (λ z. absurd (omega (arith, z, some))))

pub large : (m : ℕ) (t : Shape) → 15 < m → inline_or m t ≡ shape_with m (Some t)
large m t long = ap (shape_with m) (if_false (leb m 15) None (Some t) (lt-leb m 15 long))

small : (m : ℕ) (t : Shape) → m ≤ 15 → inline_or m t ≡ shape_with m None
small m t few = ap (λ (b : Bool). shape_with m (if b then None else Some t)) (le-leb m 15 few)

-- bytes added to an inline cord
inline-added : (side : Side) (n : ℕ) (xs : List ℕ) → 0 < n → with_bytes_added false side n (cord_shape (inline_cord xs)) ≡ cord_of_bytes (length xs + n)
inline-added side n xs some = added-some side n (cord_shape (inline_cord xs)) some

-- to one with a tree
tree-added : (side : Side) (n : ℕ) (e : Node) → 0 < n → 15 < length (text e) + n
    → with_bytes_added false side n (cord_shape (tree_cord e)) ≡ shape_with (length (text e) + n) (Some (grown_shape side n e))
tree-added side n e some long = added-some side n (cord_shape (tree_cord e)) some ∙ large (length (text e) + n) (grown_shape side n e) long

-- and few in all to any
few-added : (side : Side) (n : ℕ) (c : CordShape) → 0 < n → c.size + n ≤ 15 → with_bytes_added false side n c ≡ shape_with (c.size + n) None
few-added side n c some few = added-some side n c some ∙ small (c.size + n) _ few

pub some-there : {A : Type 0} (xs : List A) → false ≡ eqb (length xs) 0 → 0 < length xs
some-there [] is = absurd (cc)
some-there (x ∷ xs) is = omega arith

pub same-bytes : (a b c : List ℕ) → a ≡ b → b ≡ c → a ≡ c
same-bytes a b c p q = p ∙ q

pub length-both : (side : Side) (xs more both : List ℕ) → both ≡ beside side xs more → length both ≡ length xs + length more
length-both side xs more both is = ap length is ∙ length-beside side xs more

-- a tree without bytes is built anew
low-shape-of : (n : ℕ) → 0 < n → n ≤ 2147483647 → 12 < level (new_shape n) → ⊥
low-shape-of n some short high = absurd (omega (arith, high, new-low n some short))

pub low-shape : (n : ℕ) (s : Shape) → 0 < n → n ≤ 2147483647 → s ≡ new_shape n → 12 < level s → ⊥
low-shape n s some short is high = low-shape-of n some short (subst (λ (z : Shape). 12 < level z) is high)

-- ---- below the root
pub below-is : (e t : Node) (r : Option (Bor Node)) (b : Bor Node) → r ≡ Some b → t ≡ b.now → option_map (λ (z : Bor Node). z.now) r ≡ below_sum e → below_sum e ≡ Some t
below-is e t r b is one seen = sym seen ∙ ap (option_map (λ (z : Bor Node). z.now)) is ∙ ap (λ (z : Node). Some z) (sym one)

pub bare-is : (e : Node) (r : Option (Bor Node)) → r ≡ None → option_map (λ (z : Bor Node). z.now) r ≡ below_sum e → below_sum e ≡ None
bare-is e r is seen = sym seen ∙ ap (option_map (λ (z : Bor Node). z.now)) is

pub shape-below : (side : Side) (n : ℕ) (e t : Node) → IsBelow e t → with_bytes side (shape_of t) n ≡ grown_shape side n e
shape-below side n e t b = sym (ap (bytes_step false side n (cord_shape (tree_cord e))) b.shape)

pub shape-bare : (side : Side) (n : ℕ) (e : Node) → IsBare e → new_shape n ≡ grown_shape side n e
shape-bare side n e b =
    let same : length (text e) + n ≡ n = omega (arith, ap length b.none) in
    sym (ap (bytes_step false side n (cord_shape (tree_cord e))) b.shape ∙ ap new_shape same)

-- a new tree has at most two nodes for each piece
pub few-new : (n : ℕ) (e : Node) (v w : View) → 0 < n → shape_of e ≡ new_shape n → IsMadeFrom [] [] v w e → length w.taken ≤ length v.taken + 25 * piece_count n
few-new n e v w some shape made = omega (arith, made.took, nodes-shape e, ap shapes.nodes_in shape, new-twice n some)

-- ---- kept
pub kept-tree : (new : Node) (holds : List Node) → holds ≡ new ∷ [] → IsTree (shape_of new) → IsFilled new → 15 < length (text new) → length (text new) ≤ 2147483647 → IsKept holds new
kept-tree new holds is tree filled long short =
    let formed = formed-tree new tree filled in
    let size = length-whole new formed in
    record { pass = is; formed = formed; needed = inl (omega (arith, long, size)); short = omega (arith, short, size) }

pub kept-grown : (side : Side) (e new : Node) (bytes : List ℕ) (holds olds : List Node) → IsKept olds e → holds ≡ new ∷ [] → IsTree (shape_of new) → IsFilled new
    → text new ≡ beside side (text e) bytes → 15 < e.0.length + length bytes → e.0.length + length bytes ≤ 2147483647 → IsKept holds new
kept-grown side e new bytes holds olds old is tree filled same long short =
    let size : length (text new) ≡ e.0.length + length bytes = length-both side (text e) bytes (text new) same ∙ ap (λ (k : ℕ). k + length bytes) (length-whole e old.formed) in
    kept-tree new holds is tree filled (omega (arith, long, size)) (omega (arith, short, size))

-- the pass got its tree back
pub kept-back : (e : Node) (olds news : List Node) → IsKept olds e → news ≡ e ∷ [] → IsKept news e
kept-back e olds news old is = record { pass = is; formed = old.formed; needed = old.needed; short = old.short }

-- a tree that was drawn is held
pub held-drawn : (v a p : List Node) (e : Node) → p ≡ e ∷ [] → Trades v [] p a → HasHolds a (e ∷ [])
held-drawn v a p e one came = record { weighs = λ f. omega (arith, came.weighs f, ap (sum_by f) one) }

-- the old tree and the new one are held beside each other
pub both-held : (v b : List Node) (e new : Node) → HasHolds v (e ∷ []) → Trades v [] (new ∷ []) b → HasHolds b (e ∷ new ∷ [])
both-held v b e new one made = record { weighs = λ f. omega (arith, one.weighs f, made.weighs f) }

pub keeps-grown : (limit : ℕ) (e new : Node) (v a b c p : View) → p.holds ≡ e ∷ [] → a ≡ drawn v p → Trades v.holds [] p.holds a.holds
    → (m : IsMadeBeside a b new) → IsReplaced b c → Trades b.holds (e ∷ new ∷ []) [] c.holds → Keeps limit m.gained.numbers 0 0 v c
keeps-grown limit e new v a b c p one drawn_is came m replaced went =
    let g = m.gained in
    let takes = node_gain g.numbers g.found g.back g.shares in
    let backs : Gain = record no_gain { returned = replaced.back } in
    record {
      holds = trade v.holds [] [] c.holds (λ f. omega (arith, came.weighs f, m.traded.weighs f, went.weighs f, ap (sum_by f) one));
      gain = gain_then (gain_then no_gain takes) backs;
      gained = gained-then (gain_then no_gain takes) backs v b c (gained-then no_gain takes v a b (gained-drawn v a p drawn_is) g.is) replaced.gained;
      taken = append-nil g.numbers;
      made = refl;
      below = All-nil _;
      ended = refl;
      used = refl;
      looks = refl;
    }

-- ---- grown
no_less : (n : ℕ) → n ≡ n - 0
no_less n = omega arith

no_more : (n : ℕ) → n - n ≡ 0
no_more n = omega arith

none-less : (k : ℕ) → 0 ≡ 0 - k
none-less k = omega arith

pub grown-tree : (limit : ℕ) (side : Side) (e new : Node) (bytes : List ℕ) (v a b c p : View) → IsKept p.holds e → 0 < length bytes → 15 < e.0.length + length bytes
    → IsTree (shape_of new) → IsFilled new → shape_of new ≡ grown_shape side (length bytes) e → text new ≡ beside side (text e) bytes
    → a ≡ drawn v p → Trades v.holds [] p.holds a.holds → IsMadeBeside a b new → length b.taken ≤ length a.taken + 25 * piece_count (length bytes)
    → IsReplaced b c → Trades b.holds (e ∷ new ∷ []) [] c.holds → IsGrown limit side (length bytes) (tree_cord e) (tree_cord new) v c
grown-tree limit side e new bytes v a b c p old some long tree filled shape same drawn_is came m few replaced went =
    let n = length bytes in
    let size : length (text new) ≡ length (text e) + n = length-both side (text e) bytes (text new) same in
    let large_one : 15 < length (text e) + n = omega (arith, long, length-whole e old.formed) in
    let took : length b.taken ≡ length a.taken + length m.gained.numbers = ap (λ (z : View). length z.taken) m.gained.is ∙ length-append a.taken m.gained.numbers in
    record {
      shape = inl (ap (λ (k : ℕ). shape_with k (Some (shape_of new))) size ∙ (ap (λ (s : Shape). shape_with (length (text e) + n) (Some s)) shape ∙ sym (tree-added side n e some large_one)));
      formed = (formed-tree new tree filled, refl, inl (omega (arith, large_one, size)));
      numbers = m.gained.numbers;
      count = omega (arith, few, took);
      keeps = keeps-grown limit e new v a b c p old.pass drawn_is came m replaced went;
    }

-- few bytes in all become inline
count-few : (t : Option Node) (n : ℕ) → IsCountFor t None n 0
count-few None n = refl
count-few (Some e) n = omega arith

pub grown-few : (limit n : ℕ) (side : Side) (old : CordView) (xs : List ℕ) (v w : View) → 0 < n → length xs ≡ length old.bytes + n → length xs ≤ 15
    → Keeps limit [] 0 (passes_of old.tree) v w → IsGrown limit side n old (inline_cord xs) v w
grown-few limit n side old xs v w some size few keeps = record {
  shape = inl (ap (λ (k : ℕ). shape_with k None) size ∙ sym (few-added side n (cord_shape old) some (omega (arith, size, few))));
  formed = few;
  numbers = [];
  count = count-few old.tree n;
  keeps = subst (λ (k : ℕ). Keeps limit [] k (passes_of old.tree - 0) v w) (none-less (passes_of old.tree)) (subst (λ (k : ℕ). Keeps limit [] 0 k v w) (no_less (passes_of old.tree)) keeps);
}

pub grown-inline : (limit n m : ℕ) (side : Side) (xs : List ℕ) (c : CordView) (v w : View) → m ≡ length xs + n → 0 < n → cord_shape c ≡ cord_of_bytes m
    → IsTreeOf c.bytes c.tree → KeepsCount limit (nodes_of c.tree) (passes_of c.tree) 0 v w → IsGrown limit side n (inline_cord xs) c v w
grown-inline limit n m side xs c v w is some shape formed k = record {
  shape = inl (shape ∙ (ap cord_of_bytes is ∙ sym (inline-added side n xs some)));
  formed = formed;
  numbers = k.numbers;
  count = k.count_is;
  keeps = subst (λ (z : ℕ). Keeps limit k.numbers z (0 - passes_of c.tree) v w) (no_less (passes_of c.tree)) (subst (λ (z : ℕ). Keeps limit k.numbers (passes_of c.tree) z v w) (none-less (passes_of c.tree)) k.keeps);
}

count-none : (t : Option Node) (n : ℕ) → IsCountFor t t n 0
count-none None n = refl
count-none (Some e) n = omega arith

-- nothing was added
pub grown-none : (limit n : ℕ) (side : Side) (c : CordView) (v : View) → n ≡ 0 → IsTreeOf c.bytes c.tree → IsGrown limit side n c c v v
grown-none limit n side c v zero formed = record {
  shape = inl (subst (λ (k : ℕ). cord_shape c ≡ with_bytes_added false side k (cord_shape c)) (sym zero) refl);
  formed = formed;
  numbers = [];
  count = count-none c.tree n;
  keeps = subst (λ (k : ℕ). Keeps limit [] k k v v) (sym (no_more (passes_of c.tree))) (keeps-same limit v v refl);
}

-- ---- refused
low-new : (m : ℕ) → 0 < m → m ≤ 2147483647 → NeedsHeight12 (cord_of_bytes m) → ⊥
low-new m some short high = low-by m some short (leb m 15) high
  where
    low-by : (m : ℕ) → 0 < m → m ≤ 2147483647 → (b : Bool) → NeedsHeight12 (shape_with m (if b then None else Some (new_shape m))) → ⊥
    low-by m some short true high = absurd (omega (arith, high))
    low-by m some short false high = absurd (omega (arith, high, new-low m some short))

-- an inline cord that would get more than 15 bytes would be a tree, and never too high
fit-new : (m : ℕ) → 0 < m → m ≤ 2147483647 → IsFit (cord_of_bytes m)
fit-new m some short = (short, low-new m some short)

tree-new : (m : ℕ) → 15 < m → IsSome (cord_of_bytes m).tree
tree-new m long = subst (λ (c : CordShape). IsSome c.tree) (sym (large m (new_shape m) long)) refl

-- what a tree would be to which bytes are added
fit-grown : (side : Side) (n : ℕ) (e : Node) → 0 < n → 15 < length (text e) + n → length (text e) + n ≤ 2147483647 → (12 < level (grown_shape side n e) → ⊥) → IsFit (with_bytes_added false side n (cord_shape (tree_cord e)))
fit-grown side n e some long short low = subst IsFit (sym (tree-added side n e some long)) (short, low)

pub refused-grown : (size limit n : ℕ) (side : Side) (x : NodeError) (e : Node) (v a b c p : View) → IsKept p.holds e → 0 < n → 15 < e.0.length + n → e.0.length + n ≤ 2147483647 → a ≡ drawn v p
    → IsLeftAlone size (grown_shape side n e) x a b → (12 < level (grown_shape side n e) → x ≡ node.HeightLimit 12) → c ≡ filled e b → IsGrowRefused size limit side n (tree_cord e) (refusal_of x) v c
refused-grown size limit n side (node.NoNumber seen) e v a b c p old some long short drawn_is alone high filled_is =
    let size_is = length-whole e old.formed in
    let large_one : 15 < length (text e) + n = omega (arith, long, size_is) in (
      some,
      (
        fit-grown side n e some large_one (omega (arith, short, size_is)) (λ up. absurd (differs (high up))),
        subst (λ (c : CordShape). IsSome c.tree) (sym (tree-added side n e some large_one)) refl,
        alone.cause.0,
        saw-within size no_gain no_gain v a b c (gained-drawn v a p drawn_is) alone.cause.1 (gained-filled b c e filled_is),
      ),
    )
  where
    differs : node.NoNumber seen ≡ node.HeightLimit 12 → ⊥
    differs is = absurd (cc)
refused-grown size limit n side (node.HeightLimit height) e v a b c p old some long short drawn_is alone high filled_is =
    let size_is = length-whole e old.formed in
    let large_one : 15 < length (text e) + n = omega (arith, long, size_is) in
    let is = tree-added side n e some large_one in
    (some, (alone.cause.0, subst (λ (c : CordShape). c.size ≤ 2147483647) (sym is) (omega (arith, short, size_is)), subst NeedsHeight12 (sym is) alone.cause.1))
refused-grown size limit n side node.Memory e v a b c p old some long short drawn_is alone high filled_is = (some, tt)

-- the error of a call whose only answer is the height
abbrev error_in : {T : Type 0} → NodeError → Result T NodeError → NodeError
error_in x (Ok z) = x
error_in x (Err y) = y

pub high-error : {T : Type 0} (r : Result T NodeError) (x y : NodeError) → r ≡ Err x → r ≡ Err y → x ≡ y
high-error r x y is high = sym (ap (error_in x) is) ∙ ap (error_in x) high

pub balanced-grown : (size limit : ℕ) (s : Shape) (x : NodeError) (e : Node) (v a b c p : View) → p.holds ≡ e ∷ [] → a ≡ drawn v p → Trades v.holds [] p.holds a.holds
    → IsLeftAlone size s x a b → c ≡ filled e b → Trades b.holds (e ∷ []) [] c.holds → IsBalanced limit (refusal_of x) v c
balanced-grown size limit s x e v a b c p one drawn_is came alone filled_is went =
    let g = alone.gained in
    let takes = node_gain g.numbers g.found g.back g.shares in
    record {
      holds = trade v.holds [] [] c.holds (λ f. omega (arith, came.weighs f, alone.holds.weighs f, went.weighs f, ap (sum_by f) one));
      gain = gain_then (gain_then no_gain takes) no_gain;
      gained = gained-then (gain_then no_gain takes) no_gain v b c (gained-then no_gain takes v a b (gained-drawn v a p drawn_is) g.is) (gained-filled b c e filled_is);
      counts = AreGiven limit x [] (All-nil _);
      ended = refl;
      used = refl;
      looks = refl;
    }

refused-new : (size limit m : ℕ) (x : CordError) (v w : View) → 0 < m → IsMakeRefused size limit m x v w → IsRefused size limit None (cord_of_bytes m) x v w
refused-new size limit m (cord.Position asked end) v w some r = absurd r
refused-new size limit m (cord.LengthLimit asked) v w some r = (r.0, omega (arith, r.0, r.1))
refused-new size limit m (cord.HeightLimit height) v w some r = absurd r
refused-new size limit m (cord.PassLimit found) v w some r = (fit-new m some r.1, refl, tree-new m r.0, r.2)
refused-new size limit m (cord.NoNumber seen) v w some r = (fit-new m some r.1, tree-new m r.0, r.2, r.3)
refused-new size limit m (cord.NoReleaser used) v w some r = absurd r
refused-new size limit m cord.Memory v w some r = tt

pub refused-inline : (size limit n m : ℕ) (side : Side) (xs : List ℕ) (x : CordError) (v w : View) → m ≡ length xs + n → 0 < n → IsMakeRefused size limit m x v w
    → IsGrowRefused size limit side n (inline_cord xs) x v w
refused-inline size limit n m side xs x v w is some r =
    (some, subst (λ (c : CordShape). IsRefused size limit None c x v w) (ap cord_of_bytes is ∙ sym (inline-added side n xs some)) (refused-new size limit m x v w (omega (arith, is, some)) r))

-- nothing was done
pub balanced-memory : (limit : ℕ) (v : View) → IsBalanced limit cord.Memory v v
balanced-memory limit v = record {
  holds = Trades-same v.holds v.holds refl;
  gain = no_gain;
  gained = gained-same v v refl;
  counts = All-nil _;
  ended = refl;
  used = refl;
  looks = refl;
}

pub err-weaker : {T E : Type 0} (r : Result T E) (A B : E → Type 0) → ((x : E) → A x → B x) → IfErr r A → IfErr r B
err-weaker (Ok x) A B f a = tt
err-weaker (Err x) A B f a = f x a
