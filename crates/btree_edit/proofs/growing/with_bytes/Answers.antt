-- What the proof of `with_bytes` needs beyond the search.
use Rattle.std.proofs.Common.{◌≡◌, ℕ, ◌+◌, ◌-◌, ◌*◌, ◌<◌, ◌≤◌, List, [], length, subst, arith}
use Rattle.std.specs.Prelude.{Result, Ok, Err, IfOk, IfErr}
use Rattle.node_forest.specs.declared.side.Side.{Side}
use Rattle.tree_shapes.specs.Shape.{Shape, level, IsTree}
use Rattle.node_forest.specs.Label.{Node}
use Rattle.node_edges.specs.Text.{text}
use Rattle.node_edges.specs.Trees.{shape_of, IsTreeAt}
use Rattle.tree_shapes.specs.Flats.{piece_count, with_bytes}
use Rattle.btree_node.specs.Made.{IsMadeFrom, IsRefusedFrom, IsLeftAlone}
use Rattle.btree_node.proofs.GrowLaws.{root-at}
use Rattle.btree_node.proofs.MadeLaws.{alone-high, alone-refused}
use Rattle.btree_edit.specs.Trees.{kept, kept_under, pieces_under, IsLevelFor, HasTakenIn}
use Rattle.btree_edit.proofs.StepLaws.{both-ok}
use Rattle.btree_edit.specs.Steps.{IsGrownFrom}
use Rattle.tree_shapes.specs.Growth.{wrapped}
use Rattle.btree_edit.proofs.GrowLaws.{grown-shape, grown-tree, too-high, level-with_bytes, few-taken}
use Rattle.btree_edit.proofs.growing.with_bytes.Goals as goal

ok-so : {T E : Type 0} (r : Result T E) (A B : T → Type 0) → ((x : T) → A x → B x) → IfOk r A → IfOk r B
ok-so (Ok x) A B f a = f x a
ok-so (Err x) A B f a = tt

err-so : {T E : Type 0} (r : Result T E) (A B : E → Type 0) → ((x : E) → A x → B x) → IfErr r A → IfErr r B
err-so (Ok x) A B f a = tt
err-so (Err x) A B f a = f x a

for-count : {side : Side} {s : Shape} {b n m l : ℕ} → n ≡ m → IsLevelFor side s b n l → IsLevelFor side s b m l
for-count {side = side} {s = s} {b = b} {l = l} e is = subst (λ (k : ℕ). IsLevelFor side s b k l) e is

none-fits_of : {a n m : ℕ} → n ≡ m → a < n → a < m
none-fits_of e h = omega (arith, e, h)

pub lifted-requires-clause-fits : goal.lifted-requires-clause-fits
lifted-requires-clause-fits g c = (for-count c.piece_count.ensures c.in-Some.ensures.found).fits

pub returns-in_default-clause-refused : goal.returns-in_default-clause-refused
returns-in_default-clause-refused g c =
    let tree = root-at c.level_of-base.result c.args.tree.now c.level_of-base.ensures c.requires.tree c.requires.filled in
    alone-high g.P.Naming.size _ c.args.w.now (too-high c.args.side c.level_of-base.result (length c.args.bytes.now) c.args.tree.now tree (omega (arith, c.level_of-base.ensures, c.requires.tree.low)) (none-fits_of c.piece_count.ensures (c.level_beside.ensures.none c.in_default.is)))

-- the level that was found is that of the new tree
low-of : (side : Side) (b l n : ℕ) (e : Node) → IsTreeAt b e → IsLevelFor side (shape_of e) b (piece_count n) l → 12 < level (with_bytes side (shape_of e) n) → ⊥
low-of side b l n e tree is high = absurd (omega (arith, level-with_bytes side b l n e tree is, is.low, high))

pub returns-clause-high : goal.returns-clause-high
returns-clause-high g c = λ high.
    let tree = root-at c.level_of-base.result c.args.tree.now c.level_of-base.ensures c.requires.tree c.requires.filled in
    absurd (low-of c.args.side c.level_of-base.result c.in-Some.level (length c.args.bytes.now) c.args.tree.now tree (for-count c.piece_count.ensures c.in-Some.ensures.found) high)

pub returns-clause-refused : goal.returns-clause-refused
returns-clause-refused g c =
    let size = g.P.Naming.size in
    let v = c.args.w.now in
    let w = c.lifted.new.w in
    let s = with_bytes c.args.side (shape_of c.args.tree.now) (length c.args.bytes.now) in
    err-so c.lifted.result (λ x. IsRefusedFrom size [] x v w) (λ x. IsLeftAlone size s x v w) (λ x r. alone-refused size s x v w r) c.lifted.ensures.refused

pub returns-clause-made : goal.returns-clause-made
returns-clause-made g c =
    let t = c.args.tree.now in
    let side = c.args.side in
    let n = length c.args.bytes.now in
    let v = c.args.w.now in
    let w = c.lifted.new.w in
    let b = c.level_of-base.result in
    let keeps : ℕ → List Node = λ k. kept side k t (pieces_under side k t (piece_count n)) in
    ok-so c.lifted.result (λ e. IsGrownFrom b t (keeps b) v w e) (λ e. IsMadeFrom [] (keeps (level (shape_of t))) v w e)
    (λ e grown. subst (λ (k : ℕ). IsMadeFrom [] (keeps k) v w e) c.level_of-base.ensures grown.made) c.lifted.ensures.made

pub returns-clause-shape : goal.returns-clause-shape
returns-clause-shape g c =
    let t = c.args.tree.now in
    let side = c.args.side in
    let b = c.level_of-base.result in
    let l = c.in-Some.level in
    let bytes = c.args.bytes.now in
    let tree = root-at b t c.level_of-base.ensures c.requires.tree c.requires.filled in
    ok-so c.lifted.result (λ e. HasTakenIn side l (wrapped (l - b) (shape_of t)) (text t) bytes e) (λ e. shape_of e ≡ with_bytes side (shape_of t) (length bytes))
    (λ e has. grown-shape side b l t e bytes tree (for-count c.piece_count.ensures c.in-Some.ensures.found) has) c.lifted.ensures.tree

pub returns-clause-tree : goal.returns-clause-tree
returns-clause-tree g c =
    let t = c.args.tree.now in
    let side = c.args.side in
    let b = c.level_of-base.result in
    let l = c.in-Some.level in
    let bytes = c.args.bytes.now in
    let tree = root-at b t c.level_of-base.ensures c.requires.tree c.requires.filled in
    ok-so c.lifted.result (λ e. HasTakenIn side l (wrapped (l - b) (shape_of t)) (text t) bytes e) (λ e. IsTree (shape_of e))
    (λ e has. grown-tree side b l t e bytes c.requires.tree tree (for-count c.piece_count.ensures c.in-Some.ensures.found) has) c.lifted.ensures.tree

pub returns-clause-few : goal.returns-clause-few
returns-clause-few g c =
    let t = c.args.tree.now in
    let side = c.args.side in
    let b = c.level_of-base.result in
    let l = c.in-Some.level in
    let n = length c.args.bytes.now in
    let v = c.args.w.now in
    let w = c.lifted.new.w in
    let trees = kept_under side b t (piece_count n) in
    let tree = root-at b t c.level_of-base.ensures c.requires.tree c.requires.filled in
    let for_level = for-count c.piece_count.ensures c.in-Some.ensures.found in
    both-ok c.lifted.result (λ e. HasTakenIn side l (wrapped (l - b) (shape_of t)) (text t) c.args.bytes.now e) (λ e. IsGrownFrom b t trees v w e)
    (λ e. length w.taken ≤ length v.taken + 25 * piece_count n)
    (λ e has grown. few-taken side b l n t e trees v w tree for_level.above for_level.low c.requires.some for_level.fits has.shape grown) c.lifted.ensures.tree c.lifted.ensures.made
