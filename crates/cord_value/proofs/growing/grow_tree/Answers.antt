-- A tree drawn from its pass, and a grown one in its place.
use Rattle.std.proofs.Common.{length, sym, subst}
use Rattle.node_forest.specs.Label.{Node}
use Rattle.node_edges.proofs.WayLaws.{whole-down}
use Rattle.node_pool.specs.declared.refusals.NodeError.TheVariants.{HeightLimit}
use Rattle.cord_value.specs.declared.refusals.CordError.{CordError}
use Rattle.cord_value.specs.Forms.{IsKept}
use Rattle.cord_value.specs.Grown.{grown_shape, tree_cord, IsGrown, IsGrowRefused}
use Rattle.cord_value.specs.Refusals.{IsBalanced}
use Rattle.cord_value.proofs.Growth.{both-held, held-drawn, kept-grown, kept-back, grown-tree, refused-grown, balanced-grown, high-error}
use Rattle.cord_value.proofs.growing.grow_tree.Goals as goal

pub grown-requires-clause-held : goal.grown-requires-clause-held
grown-requires-clause-held g c = held-drawn c.args.w.now.holds c.draw.new.w.holds c.args.pass.now.holds c.args.root.now c.requires.kept.pass c.draw.ensures.traded

pub replace_tree-requires-clause-held : goal.replace_tree-requires-clause-held
replace_tree-requires-clause-held g c =
    both-held c.draw.new.w.holds c.grown.new.w.holds c.args.root.now c.in-Ok.made
    (held-drawn c.args.w.now.holds c.draw.new.w.holds c.args.pass.now.holds c.args.root.now c.requires.kept.pass c.draw.ensures.traded) c.in-Ok.ensures.made.traded

pub replace_tree-requires-clause-short : goal.replace_tree-requires-clause-short
replace_tree-requires-clause-short g c = whole-down c.args.root.now c.requires.kept.formed

pub returns-in-Ok-clause-kept : goal.returns-in-Ok-clause-kept
returns-in-Ok-clause-kept g c =
    let e = c.in-Ok.ensures in
    let holds = c.replace_tree.new.pass.holds in
    subst (IsKept holds) (sym c.replace_tree.ensures.root)
    (kept-grown c.args.side c.args.root.now c.in-Ok.made c.args.bytes.now holds c.args.pass.now.holds c.requires.kept c.replace_tree.ensures.pass
    e.tree.0 e.tree.1 e.text c.requires.long c.requires.short)

pub returns-in-Ok-clause-grown : goal.returns-in-Ok-clause-grown
returns-in-Ok-clause-grown g c =
    let e = c.in-Ok.ensures in
    let limit = g.P.Naming.limit in
    let old = c.args.root.now in
    subst (λ (t : Node). IsGrown limit c.args.side (length c.args.bytes.now) (tree_cord old) (tree_cord t) c.args.w.now c.replace_tree.new.w) (sym c.replace_tree.ensures.root)
    (grown-tree limit c.args.side c.args.root.now c.in-Ok.made c.args.bytes.now c.args.w.now c.draw.new.w c.grown.new.w c.replace_tree.new.w c.args.pass.now
    c.requires.kept c.requires.some c.requires.long e.tree.0 e.tree.1 e.shape e.text c.draw.ensures.drawn c.draw.ensures.traded e.made e.few
    c.replace_tree.ensures.replaced c.replace_tree.ensures.traded)

pub returns-in-Err-clause-kept : goal.returns-in-Err-clause-kept
returns-in-Err-clause-kept g c = kept-back c.args.root.now c.args.pass.now.holds c.fill.new.p.holds c.requires.kept c.fill.ensures.full

pub returns-in-Err-clause-refused : goal.returns-in-Err-clause-refused
returns-in-Err-clause-refused g c =
    let size = g.P.Naming.size in
    let limit = g.P.Naming.limit in
    let n = length c.args.bytes.now in
    let e = c.args.root.now in
    subst (λ (x : CordError). IsGrowRefused size limit c.args.side n (tree_cord e) x c.args.w.now c.fill.new.w) (sym c.into.ensures)
    (refused-grown size limit n c.args.side c.in-Err.error e c.args.w.now c.draw.new.w c.grown.new.w c.fill.new.w c.args.pass.now c.requires.kept c.requires.some
    c.requires.long c.requires.short c.draw.ensures.drawn c.in-Err.ensures.refused (λ up. high-error c.grown.result c.in-Err.error (HeightLimit 12) c.in-Err.is (c.grown.ensures.high up)) c.fill.ensures.filled)

pub returns-in-Err-clause-balanced : goal.returns-in-Err-clause-balanced
returns-in-Err-clause-balanced g c =
    let size = g.P.Naming.size in
    let limit = g.P.Naming.limit in
    let n = length c.args.bytes.now in
    let e = c.args.root.now in
    subst (λ (x : CordError). IsBalanced limit x c.args.w.now c.fill.new.w) (sym c.into.ensures)
    (balanced-grown size limit (grown_shape c.args.side n e) c.in-Err.error e c.args.w.now c.draw.new.w c.grown.new.w c.fill.new.w c.args.pass.now c.requires.kept.pass
    c.draw.ensures.drawn c.draw.ensures.traded c.in-Err.ensures.refused c.fill.ensures.filled c.fill.ensures.traded)
