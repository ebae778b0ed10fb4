-- A range of a pass's tree comes into a pass of its own.
use Rattle.std.proofs.Common.{◌∙◌, length, ap, sym, subst, arith, None}
use Rattle.node_edges.specs.Text.{text}
use Rattle.node_edges.proofs.TextLaws.{length-whole}
use Rattle.tree_shapes.specs.Cords.{cord_kept}
use Rattle.cord_value.specs.Changes.{IsRefused}
use Rattle.cord_value.specs.Grown.{tree_cord}
use Rattle.cord_value.specs.Refusals.{IsBalanced}
use Rattle.cord_value.specs.Views.{cord_shape}
use Rattle.cord_value.specs.declared.refusals.CordError.{CordError}
use Rattle.cord_value.proofs.Balances.{balanced-limit_err, balanced-packed}
use Rattle.cord_value.proofs.Changes.{changed-new, limit-refused, refused-new}
use Rattle.cord_value.proofs.RangeLaws.{fit-range, some-range, range-formed, range-kept, range-long, range-shape, made-between, refused-between, took-between}
use Rattle.cord_value.proofs.cutting.range_of.Goals as goal

pub returns-in_err-pass-clause-refused : goal.returns-in_err-pass-clause-refused
returns-in_err-pass-clause-refused g c =
    let root = c.args.root.now in
    limit-refused c.from_residual.result _ _ _ (cord_kept c.args.start c.args.n (cord_shape (tree_cord root))) c.args.w.now _ c.from_residual.ensures.1
    (fit-range c.args.start c.args.n root c.args.own.now.holds c.requires.kept c.requires.within) (some-range c.args.start c.args.n root c.requires.long c.requires.within c.requires.kept.formed)
    c.in_err-pass.ensures.limit

pub returns-in_err-pass-clause-balanced : goal.returns-in_err-pass-clause-balanced
returns-in_err-pass-clause-balanced g c = balanced-limit_err _ _ _ _ _ c.from_residual.ensures.1 c.in_err-pass.ensures.limit c.in_err-pass.ensures.refused

pub invariant_of-result : goal.invariant_of-result
invariant_of-result g c =
    let root = c.args.root.now in
    let e = c.in-Ok.ensures in
    range-kept c.fill-in-Ok.new.p.holds c.in-Ok.tree c.args.n c.fill-in-Ok.ensures.full e.tree c.requires.long (omega (arith, c.requires.within, c.requires.kept.short))
    (ap length e.text ∙ range-long (text root) c.args.start c.args.n (omega (arith, c.requires.within, length-whole root c.requires.kept.formed)))

pub returns-in-Ok-clause-shape : goal.returns-in-Ok-clause-shape
returns-in-Ok-clause-shape g c =
    let root = c.args.root.now in
    let e = c.in-Ok.ensures in
    range-shape c.args.start c.args.n root c.in-Ok.tree c.requires.long
    (ap length e.text ∙ range-long (text root) c.args.start c.args.n (omega (arith, c.requires.within, length-whole root c.requires.kept.formed))) e.shape

pub returns-in-Ok-clause-made : goal.returns-in-Ok-clause-made
returns-in-Ok-clause-made g c =
    let root = c.args.root.now in
    let e = c.in-Ok.ensures in
    let a = c.pass.new.w in
    let b = c.draw.new.w in
    let m = c.range-made.new.w in
    let d = c.fill.new.w in
    let p = c.args.own.now in
    changed-new g.P.Naming.limit 32 _ c.in-Ok.tree c.args.w.now a d c.fill-in-Ok.new.w
    (range-formed c.in-Ok.tree c.args.n e.tree c.requires.long (ap length e.text ∙ range-long (text root) c.args.start c.args.n (omega (arith, c.requires.within, length-whole root c.requires.kept.formed))))
    c.in_ok-pass.ensures.made
    (made-between a b m d p root c.in-Ok.tree c.requires.kept.pass c.draw.ensures.drawn c.draw.ensures.traded e.made c.fill.ensures.filled c.fill.ensures.traded)
    (took-between a b m d p root 32 c.draw.ensures.drawn e.few c.fill.ensures.filled) c.fill-in-Ok.ensures.filled c.fill-in-Ok.ensures.traded

pub returns-in-Err-clause-refused : goal.returns-in-Err-clause-refused
returns-in-Err-clause-refused g c =
    let size = g.P.Naming.size in
    let limit = g.P.Naming.limit in
    let root = c.args.root.now in
    let made = cord_kept c.args.start c.args.n (cord_shape (tree_cord root)) in
    subst (λ (x : CordError). IsRefused size limit None made x c.args.w.now c.end.new.w) (sym c.into.ensures)
    (refused-new size limit c.in-Err.error made c.args.w.now c.pass.new.w c.fill.new.w c.end.new.w (fit-range c.args.start c.args.n root c.args.own.now.holds c.requires.kept c.requires.within)
    (some-range c.args.start c.args.n root c.requires.long c.requires.within c.requires.kept.formed) c.in_ok-pass.ensures.made
    (refused-between size c.in-Err.error c.pass.new.w c.draw.new.w c.range-made.new.w c.fill.new.w c.args.own.now root c.requires.kept.pass c.draw.ensures.drawn c.draw.ensures.traded
    c.in-Err.ensures.refused c.fill.ensures.filled c.fill.ensures.traded) c.end.ensures.ended)

pub returns-in-Err-clause-balanced : goal.returns-in-Err-clause-balanced
returns-in-Err-clause-balanced g c =
    let limit = g.P.Naming.limit in
    let size = g.P.Naming.size in
    let root = c.args.root.now in
    subst (λ (x : CordError). IsBalanced limit x c.args.w.now c.end.new.w) (sym c.into.ensures)
    (balanced-packed size limit c.in-Err.error _ _ _ _ c.in_ok-pass.ensures.made
    (refused-between size c.in-Err.error c.pass.new.w c.draw.new.w c.range-made.new.w c.fill.new.w c.args.own.now root c.requires.kept.pass c.draw.ensures.drawn c.draw.ensures.traded
    c.in-Err.ensures.refused c.fill.ensures.filled c.fill.ensures.traded) c.end.ensures.ended)
