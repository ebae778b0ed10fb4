-- A range of a pass's tree comes in the tree's place.
use Rattle.std.proofs.Common.{◌≡◌, ◌∙◌, length, ap, sym, subst, arith, Some}
use Rattle.node_forest.specs.Label.{Node}
use Rattle.tree_shapes.specs.Cords.{cord_kept}
use Rattle.node_edges.specs.Text.{text}
use Rattle.node_edges.specs.Trees.{shape_of}
use Rattle.node_edges.proofs.TextLaws.{length-whole}
use Rattle.node_edges.proofs.WayLaws.{whole-down}
use Rattle.btree_node.proofs.MadeLaws.{alone-refused}
use Rattle.cord_value.specs.Changes.{IsChange, IsRefused}
use Rattle.cord_value.specs.Forms.{IsKept}
use Rattle.cord_value.specs.Grown.{tree_cord}
use Rattle.cord_value.specs.Refusals.{IsBalanced}
use Rattle.cord_value.specs.Views.{cord_shape}
use Rattle.cord_value.specs.declared.refusals.CordError.{CordError}
use Rattle.cord_value.proofs.Changes.{changed-tree, refused-tree}
use Rattle.cord_value.proofs.Growth.{balanced-grown}
use Rattle.cord_value.proofs.RangeLaws.{fit-range, some-range, range-formed, range-kept, range-long, range-shape}
use Rattle.cord_value.proofs.cutting.keep_range.Goals as goal

pub replace_tree-requires-clause-short : goal.replace_tree-requires-clause-short
replace_tree-requires-clause-short g c = whole-down c.args.root.now c.requires.kept.formed

pub returns-in-Ok-clause-kept : goal.returns-in-Ok-clause-kept
returns-in-Ok-clause-kept g c =
    let root = c.args.root.now in
    let e = c.in-Ok.ensures in
    let holds = c.replace_tree.new.pass.holds in
    subst (IsKept holds) (sym c.replace_tree.ensures.root)
    (range-kept holds c.in-Ok.made c.args.n c.replace_tree.ensures.pass e.tree c.requires.long (omega (arith, c.requires.within, c.requires.kept.short))
    (ap length e.text ∙ range-long (text root) c.args.start c.args.n (omega (arith, c.requires.within, length-whole root c.requires.kept.formed))))

pub returns-in-Ok-clause-shape : goal.returns-in-Ok-clause-shape
returns-in-Ok-clause-shape g c =
    let root = c.args.root.now in
    let e = c.in-Ok.ensures in
    subst (λ (t : Node). cord_shape (tree_cord t) ≡ cord_kept c.args.start c.args.n (cord_shape (tree_cord root))) (sym c.replace_tree.ensures.root)
    (range-shape c.args.start c.args.n root c.in-Ok.made c.requires.long
    (ap length e.text ∙ range-long (text root) c.args.start c.args.n (omega (arith, c.requires.within, length-whole root c.requires.kept.formed))) e.shape)

pub returns-in-Ok-clause-change : goal.returns-in-Ok-clause-change
returns-in-Ok-clause-change g c =
    let root = c.args.root.now in
    let e = c.in-Ok.ensures in
    let limit = g.P.Naming.limit in
    let v = c.args.w.now in
    let z = c.replace_tree.new.w in
    subst (λ (t : Node). IsChange limit 32 (tree_cord root) (tree_cord t) v z) (sym c.replace_tree.ensures.root)
    (changed-tree limit 32 root c.in-Ok.made v c.draw.new.w c.range.new.w z c.args.pass.now c.requires.kept.pass
    (range-formed c.in-Ok.made c.args.n e.tree c.requires.long (ap length e.text ∙ range-long (text root) c.args.start c.args.n (omega (arith, c.requires.within, length-whole root c.requires.kept.formed))))
    c.draw.ensures.drawn c.draw.ensures.traded e.made e.few c.replace_tree.ensures.replaced c.replace_tree.ensures.traded)

pub returns-in-Err-clause-refused : goal.returns-in-Err-clause-refused
returns-in-Err-clause-refused g c =
    let size = g.P.Naming.size in
    let limit = g.P.Naming.limit in
    let root = c.args.root.now in
    let made = cord_kept c.args.start c.args.n (cord_shape (tree_cord root)) in
    subst (λ (x : CordError). IsRefused size limit (Some root) made x c.args.w.now c.fill.new.w) (sym c.into.ensures)
    (refused-tree size limit c.in-Err.error made root c.args.w.now c.draw.new.w c.range.new.w c.fill.new.w c.args.pass.now
    (fit-range c.args.start c.args.n root c.args.pass.now.holds c.requires.kept c.requires.within) (some-range c.args.start c.args.n root c.requires.long c.requires.within c.requires.kept.formed)
    c.draw.ensures.drawn c.in-Err.ensures.refused c.fill.ensures.filled)

pub returns-in-Err-clause-balanced : goal.returns-in-Err-clause-balanced
returns-in-Err-clause-balanced g c =
    let size = g.P.Naming.size in
    let limit = g.P.Naming.limit in
    let root = c.args.root.now in
    subst (λ (x : CordError). IsBalanced limit x c.args.w.now c.fill.new.w) (sym c.into.ensures)
    (balanced-grown size limit (shape_of root) c.in-Err.error root c.args.w.now c.draw.new.w c.range.new.w c.fill.new.w c.args.pass.now c.requires.kept.pass
    c.draw.ensures.drawn c.draw.ensures.traded (alone-refused size (shape_of root) c.in-Err.error c.draw.new.w c.range.new.w c.in-Err.ensures.refused) c.fill.ensures.filled c.fill.ensures.traded)
