-- A cord of few bytes with a sum.
use Rattle.std.proofs.Common.{length, refl, sym, ap, subst, arith, None}
use Rattle.tree_shapes.specs.Cords.{rooted, with_sum}
use Rattle.cord_value.specs.Changes.{IsRefused}
use Rattle.cord_value.specs.Grown.{inline_cord}
use Rattle.cord_value.specs.Refusals.{IsBalanced}
use Rattle.cord_value.specs.Views.{cord_shape}
use Rattle.cord_value.specs.declared.refusals.CordError.{CordError}
use Rattle.cord_value.proofs.Balances.{balanced-limit_err, balanced-packed}
use Rattle.cord_value.proofs.Changes.{changed-new, limit-refused, refused-new}
use Rattle.cord_value.proofs.SumLaws.{fit-sum, sum-formed, sum-kept}
use Rattle.cord_value.proofs.sums.summed_inline.Goals as goal

pub returns-in_err-pass-clause-refused : goal.returns-in_err-pass-clause-refused
returns-in_err-pass-clause-refused g c =
    let old = cord_shape (inline_cord c.args.inline.now) in
    limit-refused c.from_residual.result _ _ _ (with_sum c.args.value old) c.args.w.now _ c.from_residual.ensures.1 (fit-sum c.args.value old (omega (arith, c.requires.inline))) refl c.in_err-pass.ensures.limit

pub returns-in_err-pass-clause-balanced : goal.returns-in_err-pass-clause-balanced
returns-in_err-pass-clause-balanced g c = balanced-limit_err _ _ _ _ _ c.from_residual.ensures.1 c.in_err-pass.ensures.limit c.in_err-pass.ensures.refused

pub invariant_of-result : goal.invariant_of-result
invariant_of-result g c =
    let e = c.in-Ok.ensures in
    sum-kept c.fill.new.p.holds c.in-Ok.root c.args.value (rooted (length c.args.inline.now) None) c.fill.ensures.full e.formed e.shape (omega (arith, ap length e.text, c.requires.inline))

pub returns-in-Ok-clause-change : goal.returns-in-Ok-clause-change
returns-in-Ok-clause-change g c =
    let e = c.in-Ok.ensures in
    changed-new g.P.Naming.limit 2 c.args.inline.now c.in-Ok.root c.args.w.now c.pass.new.w c.sum_over_bytes.new.w c.fill.new.w
    (sum-formed c.in-Ok.root c.args.value (rooted (length c.args.inline.now) None) e.formed e.shape) c.in_ok-pass.ensures.made e.made e.few c.fill.ensures.filled c.fill.ensures.traded

pub returns-in-Err-clause-refused : goal.returns-in-Err-clause-refused
returns-in-Err-clause-refused g c =
    let size = g.P.Naming.size in
    let limit = g.P.Naming.limit in
    let old = cord_shape (inline_cord c.args.inline.now) in
    subst (λ (x : CordError). IsRefused size limit None (with_sum c.args.value old) x c.args.w.now c.end.new.w) (sym c.into.ensures)
    (refused-new size limit c.in-Err.error (with_sum c.args.value old) c.args.w.now c.pass.new.w c.sum_over_bytes.new.w c.end.new.w (fit-sum c.args.value old (omega (arith, c.requires.inline))) refl
    c.in_ok-pass.ensures.made c.in-Err.ensures.refused c.end.ensures.ended)

pub returns-in-Err-clause-balanced : goal.returns-in-Err-clause-balanced
returns-in-Err-clause-balanced g c =
    let limit = g.P.Naming.limit in
    subst (λ (x : CordError). IsBalanced limit x c.args.w.now c.end.new.w) (sym c.into.ensures)
    (balanced-packed g.P.Naming.size limit c.in-Err.error _ _ _ _ c.in_ok-pass.ensures.made c.in-Err.ensures.refused c.end.ensures.ended)
