-- What a new cord, and a refused one, leave a worker with.
use Rattle.std.proofs.Common.{[], inl, length, refl, sym, subst, ap, arith}
use Rattle.cord_value.specs.declared.refusals.CordError.{CordError}
use Rattle.cord_value.specs.Refusals.{IsMakeRefused, IsMakeUndone, IsBalanced}
use Rattle.cord_value.proofs.Balances.{keeps-same, keeps-made, keeps-packed, unshared-made, balanced-length, balanced-limit_err, balanced-packed, undone-refused, untaken-refused, cause-refused}
use Rattle.cord_value.proofs.Roots.{formed-tree}
use Rattle.cord_value.proofs.Shapes.{kept-new}
use Rattle.cord_value.proofs.cord.Cord.from_bytes.Goals as goal

pub returns-then-bytes-le-MOST_INLINE-clause-numbers : goal.returns-then-bytes-le-MOST_INLINE-clause-numbers
returns-then-bytes-le-MOST_INLINE-clause-numbers g c = record { numbers = []; count_is = refl; keeps = keeps-same _ _ _ refl }

pub returns-then-bytes-le-MOST_INLINE-clause-worker : goal.returns-then-bytes-le-MOST_INLINE-clause-worker
returns-then-bytes-le-MOST_INLINE-clause-worker g c = λ few. keeps-same _ _ _ refl

pub returns-then-bytes-gt-MOST_BYTES-clause-balanced : goal.returns-then-bytes-gt-MOST_BYTES-clause-balanced
returns-then-bytes-gt-MOST_BYTES-clause-balanced g c = balanced-length _ _ _ _ refl

pub returns-in_err-pass-clause-balanced : goal.returns-in_err-pass-clause-balanced
returns-in_err-pass-clause-balanced g c = balanced-limit_err _ _ _ _ _ c.from_residual.ensures.1 c.in_err-pass.ensures.limit c.in_err-pass.ensures.refused

pub invariant_of-result-in-Ok : goal.invariant_of-result-in-Ok
invariant_of-result-in-Ok g c =
    kept-new c.fill.new.p.holds c.in-Ok.root c.args.bytes.now c.fill.ensures.full c.in-Ok.ensures.tree.0 c.in-Ok.ensures.tree.1 c.in-Ok.ensures.text
    (omega (arith, c.if-bytes-le-MOST_INLINE.false)) (omega (arith, c.if-bytes-gt-MOST_BYTES.false))

pub returns-in-Ok-clause-formed : goal.returns-in-Ok-clause-formed
returns-in-Ok-clause-formed g c =
    (formed-tree c.in-Ok.root c.in-Ok.ensures.tree.0 c.in-Ok.ensures.tree.1, refl, inl (omega (arith, c.if-bytes-le-MOST_INLINE.false, ap length c.in-Ok.ensures.text)))

pub returns-in-Ok-clause-numbers : goal.returns-in-Ok-clause-numbers
returns-in-Ok-clause-numbers g c = keeps-packed _ c.in-Ok.root _ _ _ _ c.in_ok-pass.ensures.made c.in-Ok.ensures.made c.fill.ensures.filled c.fill.ensures.traded

pub returns-in-Ok-clause-worker : goal.returns-in-Ok-clause-worker
returns-in-Ok-clause-worker g c = λ few.
    keeps-made _ _ c.in-Ok.root _ _ _ _ c.in_ok-pass.ensures.made (c.in-Ok.ensures.added few) c.in-Ok.ensures.made.traded c.fill.ensures.filled c.fill.ensures.traded

pub returns-in-Ok-clause-unshared : goal.returns-in-Ok-clause-unshared
returns-in-Ok-clause-unshared g c = λ few. unshared-made _ _ c.in-Ok.root _ _ _ _ c.in_ok-pass.ensures.made (c.in-Ok.ensures.added few) c.fill.ensures.filled

pub returns-in-Err-clause-refused : goal.returns-in-Err-clause-refused
returns-in-Err-clause-refused g c =
    let limit = g.P.Naming.limit in
    let n = length c.args.bytes.now in
    subst (λ (x : CordError). IsMakeRefused g.P.Naming.size limit n x c.args.w.now c.end.new.w) (sym c.into.ensures)
    (cause-refused _ limit n c.in-Err.error _ _ _ _ (omega (arith, c.if-bytes-le-MOST_INLINE.false)) (omega (arith, c.if-bytes-gt-MOST_BYTES.false)) c.in_ok-pass.ensures.made
    c.in-Err.ensures.refused.height c.in-Err.ensures.refused.cause c.end.ensures.ended)

pub returns-in-Err-clause-steps : goal.returns-in-Err-clause-steps
returns-in-Err-clause-steps g c =
    let limit = g.P.Naming.limit in
    let n = length c.args.bytes.now in
    subst (λ (x : CordError). IsMakeUndone limit n x c.args.w.now c.end.new.w) (sym c.into.ensures)
    (undone-refused limit n c.in-Err.error _ _ _ _ c.in_ok-pass.ensures.made c.in-Err.ensures.refused.height (λ few. c.in-Err.ensures.noted few) c.end.ensures.ended)

pub returns-in-Err-clause-balanced : goal.returns-in-Err-clause-balanced
returns-in-Err-clause-balanced g c =
    let limit = g.P.Naming.limit in
    subst (λ (x : CordError). IsBalanced limit x c.args.w.now c.end.new.w) (sym c.into.ensures)
    (balanced-packed g.P.Naming.size limit c.in-Err.error _ _ _ _ c.in_ok-pass.ensures.made c.in-Err.ensures.refused c.end.ensures.ended)

pub returns-in-Err-clause-untaken : goal.returns-in-Err-clause-untaken
returns-in-Err-clause-untaken g c = λ few. untaken-refused _ c.in-Err.error _ _ _ _ c.in_ok-pass.ensures.made (c.in-Err.ensures.noted few) c.end.ensures.ended
