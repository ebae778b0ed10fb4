-- A tree drawn from its pass, and one with another at a side in its place.
use Rattle.std.proofs.Common.{◌≡◌, ◌+◌, ◌≤◌, length, refl, sym, subst, arith, Some}
use Rattle.node_forest.specs.Label.{Node}
use Rattle.tree_shapes.specs.Cords.{without_sum}
use Rattle.node_edges.specs.Text.{text}
use Rattle.node_edges.specs.Trees.{shape_of}
use Rattle.node_edges.proofs.TextLaws.{length-whole}
use Rattle.node_edges.proofs.WayLaws.{whole-down}
use Rattle.node_pool.specs.declared.refusals.NodeError.TheVariants.{HeightLimit}
use Rattle.cord_value.specs.Changes.{IsChange, IsRefused}
use Rattle.cord_value.specs.Forms.{IsKept}
use Rattle.cord_value.specs.Grown.{tree_cord}
use Rattle.cord_value.specs.Joined.{joined_to, shared_shape}
use Rattle.cord_value.specs.Refusals.{IsBalanced}
use Rattle.cord_value.specs.Views.{cord_shape}
use Rattle.cord_value.specs.declared.refusals.CordError.{CordError}
use Rattle.cord_value.proofs.Changes.{changed-tree}
use Rattle.cord_value.proofs.Growth.{kept-tree, balanced-grown, high-error, length-both}
use Rattle.cord_value.proofs.JoinLaws.{formed-long, level-joined, refused-alone, shape-joined}
use Rattle.cord_value.proofs.Roots.{formed-tree}
use Rattle.cord_value.proofs.sharing.join_trees.Goals as goal

pub replace_tree-requires-clause-short : goal.replace_tree-requires-clause-short
replace_tree-requires-clause-short g c = whole-down c.args.root.now c.requires.kept.formed

pub returns-in-Ok-clause-kept : goal.returns-in-Ok-clause-kept
returns-in-Ok-clause-kept g c =
    let e = c.in-Ok.ensures in
    let old = c.args.root.now in
    let x = c.args.tree.now in
    let new = c.in-Ok.made in
    let holds = c.replace_tree.new.pass.holds in
    let size = length-both c.args.side (text old) (text x) (text new) e.text in
    let was = length-whole old c.requires.kept.formed in
    let more = length-whole x (formed-tree x c.requires.tree c.requires.filled) in
    subst (IsKept holds) (sym c.replace_tree.ensures.root)
    (kept-tree new holds c.replace_tree.ensures.pass e.tree.0 e.tree.1 (omega (arith, size, more, c.requires.long)) (omega (arith, size, was, more, c.requires.short)))

pub returns-in-Ok-clause-shape : goal.returns-in-Ok-clause-shape
returns-in-Ok-clause-shape g c =
    let e = c.in-Ok.ensures in
    let old = c.args.root.now in
    let x = c.args.tree.now in
    let side = c.args.side in
    subst (λ (t : Node). cord_shape (tree_cord t) ≡ shared_shape side x (tree_cord old)) (sym c.replace_tree.ensures.root)
    (shape-joined side old x c.in-Ok.made c.requires.kept.formed e.shape (length-both side (text old) (text x) (text c.in-Ok.made) e.text))

pub returns-in-Ok-clause-change : goal.returns-in-Ok-clause-change
returns-in-Ok-clause-change g c =
    let e = c.in-Ok.ensures in
    let limit = g.P.Naming.limit in
    let old = c.args.root.now in
    let x = c.args.tree.now in
    let new = c.in-Ok.made in
    let v = c.args.w.now in
    let z = c.replace_tree.new.w in
    let size = length-both c.args.side (text old) (text x) (text new) e.text in
    let more = length-whole x (formed-tree x c.requires.tree c.requires.filled) in
    subst (λ (t : Node). IsChange limit 32 (tree_cord old) (tree_cord t) v z) (sym c.replace_tree.ensures.root)
    (changed-tree limit 32 old new v c.draw.new.w c.beside_tree.new.w z c.args.pass.now c.requires.kept.pass
    (formed-long new e.tree.0 e.tree.1 (omega (arith, size, more, c.requires.long))) c.draw.ensures.drawn c.draw.ensures.traded e.made e.few
    c.replace_tree.ensures.replaced c.replace_tree.ensures.traded)

pub returns-in-Err-clause-refused : goal.returns-in-Err-clause-refused
returns-in-Err-clause-refused g c =
    let size = g.P.Naming.size in
    let limit = g.P.Naming.limit in
    let side = c.args.side in
    let old = c.args.root.now in
    let x = c.args.tree.now in
    let made = shared_shape side x (tree_cord old) in
    let was = length-whole old c.requires.kept.formed in
    let more = length-whole x (formed-tree x c.requires.tree c.requires.filled) in
    let short : length (text old) + length (text x) ≤ 2147483647 = omega (arith, was, more, c.requires.short) in
    subst (λ (y : CordError). IsRefused size limit (Some old) made y c.args.w.now c.fill.new.w) (sym c.into.ensures)
    (refused-alone size limit c.in-Err.error made (joined_to side (without_sum (Some (shape_of old))) (shape_of x)) old c.args.w.now c.draw.new.w c.beside_tree.new.w c.fill.new.w c.args.pass.now
    short refl (level-joined side old x c.requires.kept.formed) c.draw.ensures.drawn c.in-Err.ensures.refused
    (λ up. high-error c.beside_tree.result c.in-Err.error (HeightLimit 12) c.in-Err.is (c.beside_tree.ensures.high up)) c.fill.ensures.filled)

pub returns-in-Err-clause-balanced : goal.returns-in-Err-clause-balanced
returns-in-Err-clause-balanced g c =
    let size = g.P.Naming.size in
    let limit = g.P.Naming.limit in
    let old = c.args.root.now in
    subst (λ (y : CordError). IsBalanced limit y c.args.w.now c.fill.new.w) (sym c.into.ensures)
    (balanced-grown size limit (joined_to c.args.side (without_sum (Some (shape_of old))) (shape_of c.args.tree.now)) c.in-Err.error old c.args.w.now c.draw.new.w c.beside_tree.new.w c.fill.new.w c.args.pass.now
    c.requires.kept.pass c.draw.ensures.drawn c.draw.ensures.traded c.in-Err.ensures.refused c.fill.ensures.filled c.fill.ensures.traded)
