-- What the proof of `fill_tree` needs beyond the search.
use Rattle.std.proofs.Common.{ℕ, ◌≡◌, ◌+◌, ◌≤◌, List, length, sym, ap, subst, ◌∙◌, arith, inl, inr, Some}
use Rattle.std.specs.Prelude.{◌⊎◌}
use Rattle.pool_rule.specs.Marks.{IsLonePath}
use Rattle.node_forest.specs.declared.side.Side.TheVariants.{Back}
use Rattle.cord_value.specs.Filling.{IsPlaced, WasShared, IsGrownAfter, IsBalancedAfter}
use Rattle.cord_value.specs.Grown.{tree_cord, IsGrown, IsGrowRefused}
use Rattle.cord_value.specs.Refusals.{IsBalanced}
use Rattle.cord_value.specs.declared.refusals.CordError.TheVariants as errors
use Rattle.cord_value.proofs.Growth.{kept-grown, err-weaker}
use Rattle.cord_value.proofs.Shapes.{ok-weaker}
use Rattle.cord_value.proofs.FillLaws.{IsSeenShared, IsFillOf, bare-tree, bare-long, fill-of, fill-back, balanced-fill, filled-behind, grown-filled, grown-first, balanced-first, seen-shared, looked-shared, shared-grown, shared-balanced, grow-refused-after}
use Rattle.cord_value.proofs.filling.fill_tree.Given.{Over}
use Rattle.cord_value.proofs.filling.fill_tree.Goals as goal

pub path_behind-path-requires-clause-tree : goal.path_behind-path-requires-clause-tree
path_behind-path-requires-clause-tree g c = bare-tree c.args.root.now c.requires.kept.formed c.requires.fits.bare

pub grow_tree-requires-clause-long : goal.grow_tree-requires-clause-long
grow_tree-requires-clause-long g c = omega (arith, bare-long c.args.root.now c.args.pass.now.holds c.requires.kept c.requires.fits.bare)

-- the look found the way shared, and the tree is back in its pass
seen : (g : Over) (c : goal.After-grow_tree g) → IsSeenShared c.args.root.now c.args.w.now c.fill.new.w
seen g c =
    let path = c.as_slice.result.now in
    let low : c.lone_depth-lone.result ≤ length path = omega (arith, c.if-from-len.true, c.from.ensures, c.len.ensures.value, ap (λ (ps : List ℕ). length ps) c.as_slice.ensures.value) in
    seen-shared c.lone_depth-lone.result c.args.root.now path c.args.w.now c.draw.new.w c.lone_depth-lone.new.w c.fill.new.w c.args.pass.now (c.as_slice.ensures.value ∙ c.path_behind-path.ensures.path) low
    c.requires.kept.pass c.draw.ensures.drawn c.draw.ensures.traded (c.lone_depth-lone.ensures.shared low) c.lone_depth-lone.ensures.holds c.fill.ensures.filled c.fill.ensures.traded

-- looks found it lone, the flat was filled, and the tree is back
fill : (g : Over) (c : goal.After-fill-in-Ok g) → IsFillOf c.args.w.now c.fill-in-Ok.new.w
fill g c =
    let path = c.as_slice.result.now in
    let whole : c.lone_depth-lone.result ≡ length path + 1 =
    omega (arith, c.if-from-len.false, c.from.ensures, c.len.ensures.value, c.lone_depth-lone.ensures.few, ap (λ (ps : List ℕ). length ps) c.as_slice.ensures.value) in
    fill-of c.lone_depth-lone.result c.args.root.now c.grow_flat.new.root path c.args.w.now c.draw.new.w c.lone_depth-lone.new.w c.grow_flat.new.w c.fill-in-Ok.new.w c.args.pass.now
    c.requires.kept.pass c.draw.ensures.drawn c.draw.ensures.traded (c.lone_depth-lone.ensures.whole whole) c.lone_depth-lone.ensures.holds
    c.in-Ok.ensures.worker c.in-Ok.ensures.traded c.fill-in-Ok.ensures.filled c.fill-in-Ok.ensures.traded

pub returns-then-from-len-clause-grown : goal.returns-then-from-len-clause-grown
returns-then-from-len-clause-grown g c =
    let limit = g.P.Naming.limit in
    let old = tree_cord c.args.root.now in
    let new = tree_cord c.grow_tree.new.root in
    let n = length c.args.bytes.now in
    let v = c.args.w.now in
    let m = c.fill.new.w in
    let w = c.grow_tree.new.w in
    ok-weaker c.grow_tree.result (λ _. IsGrown limit Back n old new m w) (λ _. IsGrownAfter limit n old new v w)
    (λ _ grown. record { looked = m; first = looked-shared c.args.root.now v m (seen g c); grown = grown }) c.grow_tree.ensures.grown

pub returns-then-from-len-clause-placed : goal.returns-then-from-len-clause-placed
returns-then-from-len-clause-placed g c =
    let limit = g.P.Naming.limit in
    let e = c.args.root.now in
    let new = c.grow_tree.new.root in
    let n = length c.args.bytes.now in
    let v = c.args.w.now in
    let m = c.fill.new.w in
    let w = c.grow_tree.new.w in
    ok-weaker c.grow_tree.result (λ _. IsGrown limit Back n (tree_cord e) (tree_cord new) m w) (λ _. IsPlaced c.args.bytes.now (Some e) (Some new) v w)
    (λ _ grown. inr (shared-grown limit n e (tree_cord new) v m w (seen g c) grown)) c.grow_tree.ensures.grown

pub returns-then-from-len-clause-refused : goal.returns-then-from-len-clause-refused
returns-then-from-len-clause-refused g c =
    let size = g.P.Naming.size in
    let limit = g.P.Naming.limit in
    let e = c.args.root.now in
    let n = length c.args.bytes.now in
    let v = c.args.w.now in
    let m = c.fill.new.w in
    let w = c.grow_tree.new.w in
    err-weaker c.grow_tree.result (λ x. IsGrowRefused size limit Back n (tree_cord e) x m w) (λ x. IsGrowRefused size limit Back n (tree_cord e) x v w)
    (λ x r. grow-refused-after size limit n (tree_cord e) x v m w (looked-shared e v m (seen g c)) r) c.grow_tree.ensures.refused

pub returns-then-from-len-clause-balanced : goal.returns-then-from-len-clause-balanced
returns-then-from-len-clause-balanced g c =
    let limit = g.P.Naming.limit in
    let v = c.args.w.now in
    let m = c.fill.new.w in
    let w = c.grow_tree.new.w in
    err-weaker c.grow_tree.result (λ x. IsBalanced limit x m w) (λ x. IsBalancedAfter limit x v w)
    (λ x b. record { looked = m; first = looked-shared c.args.root.now v m (seen g c); balanced = b }) c.grow_tree.ensures.balanced

pub returns-then-from-len-clause-shared_if_err : goal.returns-then-from-len-clause-shared_if_err
returns-then-from-len-clause-shared_if_err g c =
    let limit = g.P.Naming.limit in
    let e = c.args.root.now in
    let v = c.args.w.now in
    let m = c.fill.new.w in
    let w = c.grow_tree.new.w in
    err-weaker c.grow_tree.result (λ x. IsBalanced limit x m w) (λ x. (x ≡ errors.Memory) ⊎ WasShared e v w)
    (λ x b. inr (shared-balanced limit x e v m w (seen g c) b)) c.grow_tree.ensures.balanced

pub grow_flat-requires-clause-tree : goal.grow_flat-requires-clause-tree
grow_flat-requires-clause-tree g c = bare-tree c.args.root.now c.requires.kept.formed c.requires.fits.bare

pub grow_flat-requires-clause-lone : goal.grow_flat-requires-clause-lone
grow_flat-requires-clause-lone g c =
    let e = c.args.root.now in
    let path = c.as_slice.result.now in
    let whole : c.lone_depth-lone.result ≡ length path + 1 =
    omega (arith, c.if-from-len.false, c.from.ensures, c.len.ensures.value, c.lone_depth-lone.ensures.few, ap (λ (ps : List ℕ). length ps) c.as_slice.ensures.value) in
    subst (λ (ps : List ℕ). IsLonePath e ps c.lone_depth-lone.new.w) (c.as_slice.ensures.value ∙ sym c.as_slice-2.ensures.value) (c.lone_depth-lone.ensures.path whole)

pub returns-in-Ok-clause-kept : goal.returns-in-Ok-clause-kept
returns-in-Ok-clause-kept g c =
    let e = c.args.root.now in
    let long = bare-long e c.args.pass.now.holds c.requires.kept c.requires.fits.bare in
    kept-grown Back e c.grow_flat.new.root c.args.bytes.now c.fill-in-Ok.new.p.holds c.args.pass.now.holds c.requires.kept c.fill-in-Ok.ensures.full
    c.in-Ok.ensures.tree c.in-Ok.ensures.filled c.in-Ok.ensures.text (omega (arith, long)) c.requires.fits.short

pub returns-in-Ok-clause-grown : goal.returns-in-Ok-clause-grown
returns-in-Ok-clause-grown g c =
    let limit = g.P.Naming.limit in
    let e = c.args.root.now in
    let new = c.grow_flat.new.root in
    let v = c.args.w.now in
    let w = c.fill-in-Ok.new.w in
    grown-first limit (length c.args.bytes.now) (tree_cord e) (tree_cord new) v w
    (grown-filled limit c.args.bytes.now e new c.args.pass.now.holds v w c.requires.kept c.requires.fits
    c.in-Ok.ensures.tree c.in-Ok.ensures.filled c.in-Ok.ensures.shape c.in-Ok.ensures.text (fill g c))

pub returns-in-Ok-clause-placed : goal.returns-in-Ok-clause-placed
returns-in-Ok-clause-placed g c = inl (filled-behind c.args.bytes.now c.args.root.now c.grow_flat.new.root c.args.w.now c.fill-in-Ok.new.w c.in-Ok.ensures.node (fill g c))

pub returns-in-Err-clause-balanced : goal.returns-in-Err-clause-balanced
returns-in-Err-clause-balanced g c =
    let e = c.args.root.now in
    let path = c.as_slice.result.now in
    let v = c.args.w.now in
    let w = c.fill-in-Err.new.w in
    let whole : c.lone_depth-lone.result ≡ length path + 1 =
    omega (arith, c.if-from-len.false, c.from.ensures, c.len.ensures.value, c.lone_depth-lone.ensures.few, ap (λ (ps : List ℕ). length ps) c.as_slice.ensures.value) in
    balanced-first g.P.Naming.limit errors.Memory v w
    (balanced-fill g.P.Naming.limit v w
    (fill-back c.lone_depth-lone.result e c.grow_flat.new.root path v c.draw.new.w c.lone_depth-lone.new.w c.grow_flat.new.w w c.args.pass.now
    c.requires.kept.pass c.draw.ensures.drawn c.draw.ensures.traded (c.lone_depth-lone.ensures.whole whole) c.lone_depth-lone.ensures.holds
    c.in-Err.ensures.same c.in-Err.ensures.worker_if_err c.fill-in-Err.ensures.filled c.fill-in-Err.ensures.traded))
