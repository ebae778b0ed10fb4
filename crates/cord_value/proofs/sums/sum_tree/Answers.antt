-- The tree of a pass comes under a Sum.
use Rattle.std.proofs.Common.{ℕ, ◌≡◌, ◌∙◌, ◌≤◌, length, refl, sym, ap, subst, arith, Some}
use Rattle.node_forest.specs.Label.{Node}
use Rattle.tree_shapes.specs.Cords.{with_sum, without_sum}
use Rattle.node_edges.specs.Text.{text}
use Rattle.node_edges.specs.Trees.{shape_of}
use Rattle.node_edges.proofs.TextLaws.{length-whole}
use Rattle.node_edges.proofs.WayLaws.{whole-down}
use Rattle.btree_node.proofs.MadeLaws.{alone-refused}
use Rattle.cord_value.specs.Changes.{IsChange, IsRefused}
use Rattle.cord_value.specs.Forms.{IsKept}
use Rattle.cord_value.specs.Grown.{tree_cord}
use Rattle.cord_value.specs.Refusals.{IsBalanced}
use Rattle.cord_value.specs.Views.{cord_shape}
use Rattle.cord_value.specs.declared.refusals.CordError.{CordError}
use Rattle.cord_value.proofs.Changes.{changed-tree, refused-tree}
use Rattle.cord_value.proofs.Growth.{balanced-grown}
use Rattle.cord_value.proofs.SumLaws.{fit-sum, rooted-root, sum-formed, sum-kept, summed_with}
use Rattle.cord_value.proofs.sums.sum_tree.Goals as goal

pub replace_tree-requires-clause-short : goal.replace_tree-requires-clause-short
replace_tree-requires-clause-short g c = whole-down c.args.root.now c.requires.kept.formed

pub returns-in-Ok-clause-kept : goal.returns-in-Ok-clause-kept
returns-in-Ok-clause-kept g c =
    let e = c.in-Ok.ensures in
    let old = c.args.root.now in
    let holds = c.replace_tree.new.pass.holds in
    subst (IsKept holds) (sym c.replace_tree.ensures.root)
    (sum-kept holds c.in-Ok.made c.args.value (without_sum (Some (shape_of old))) c.replace_tree.ensures.pass e.formed e.shape
    (omega (arith, ap length e.text, length-whole old c.requires.kept.formed, c.requires.kept.short)))

pub returns-in-Ok-clause-shape : goal.returns-in-Ok-clause-shape
returns-in-Ok-clause-shape g c =
    let e = c.in-Ok.ensures in
    let old = c.args.root.now in
    let value = c.args.value in
    let n = length (text old) in
    subst (λ (t : Node). cord_shape (tree_cord t) ≡ with_sum value (cord_shape (tree_cord old))) (sym c.replace_tree.ensures.root)
    (ap (λ (k : ℕ). record { size = k; tree = Some (shape_of c.in-Ok.made) }) (ap length e.text)
    ∙ (ap (λ s. record { size = n; tree = Some s }) e.shape ∙ ap (summed_with value n) (sym (rooted-root old c.requires.kept.formed))))

pub returns-in-Ok-clause-change : goal.returns-in-Ok-clause-change
returns-in-Ok-clause-change g c =
    let e = c.in-Ok.ensures in
    let limit = g.P.Naming.limit in
    let old = c.args.root.now in
    let v = c.args.w.now in
    let z = c.replace_tree.new.w in
    subst (λ (t : Node). IsChange limit 2 (tree_cord old) (tree_cord t) v z) (sym c.replace_tree.ensures.root)
    (changed-tree limit 2 old c.in-Ok.made v c.draw.new.w c.summed.new.w z c.args.pass.now c.requires.kept.pass
    (sum-formed c.in-Ok.made c.args.value (without_sum (Some (shape_of old))) e.formed e.shape) c.draw.ensures.drawn c.draw.ensures.traded e.made (omega (arith, e.one))
    c.replace_tree.ensures.replaced c.replace_tree.ensures.traded)

pub returns-in-Err-clause-refused : goal.returns-in-Err-clause-refused
returns-in-Err-clause-refused g c =
    let size = g.P.Naming.size in
    let limit = g.P.Naming.limit in
    let old = c.args.root.now in
    let made = with_sum c.args.value (cord_shape (tree_cord old)) in
    let short : length (text old) ≤ 2147483647 = omega (arith, length-whole old c.requires.kept.formed, c.requires.kept.short) in
    subst (λ (x : CordError). IsRefused size limit (Some old) made x c.args.w.now c.fill.new.w) (sym c.into.ensures)
    (refused-tree size limit c.in-Err.error made old c.args.w.now c.draw.new.w c.summed.new.w c.fill.new.w c.args.pass.now (fit-sum c.args.value (cord_shape (tree_cord old)) short) refl
    c.draw.ensures.drawn c.in-Err.ensures.refused c.fill.ensures.filled)

pub returns-in-Err-clause-balanced : goal.returns-in-Err-clause-balanced
returns-in-Err-clause-balanced g c =
    let size = g.P.Naming.size in
    let limit = g.P.Naming.limit in
    let old = c.args.root.now in
    subst (λ (x : CordError). IsBalanced limit x c.args.w.now c.fill.new.w) (sym c.into.ensures)
    (balanced-grown size limit (shape_of old) c.in-Err.error old c.args.w.now c.draw.new.w c.summed.new.w c.fill.new.w c.args.pass.now c.requires.kept.pass
    c.draw.ensures.drawn c.draw.ensures.traded (alone-refused size (shape_of old) c.in-Err.error c.draw.new.w c.summed.new.w c.in-Err.ensures.refused) c.fill.ensures.filled c.fill.ensures.traded)
