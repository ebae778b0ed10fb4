-- What a cord of bytes from outside, and a refused one, leave a worker with.
use Rattle.std.proofs.Common.{length, sym, subst, arith}
use Rattle.std.proofs.lemmas.List.Elements.{All-nil}
use Rattle.cord_value.specs.Externals.{IsExternalRefused}
use Rattle.cord_value.specs.Refusals.{IsBalanced}
use Rattle.cord_value.specs.declared.refusals.CordError.{CordError}
use Rattle.cord_value.specs.declared.refusals.CordError.TheVariants.{LengthLimit, NoReleaser}
use Rattle.cord_value.proofs.Balances.{balanced-nothing, balanced-limit_err, balanced-refused}
use Rattle.cord_value.proofs.ExternalLaws.{external-made, external-limit, external-refused, some-slot}
use Rattle.cord_value.proofs.cord.Cord.from_external.Goals as goal

pub returns-in_default-clause-balanced : goal.returns-in_default-clause-balanced
returns-in_default-clause-balanced g c = balanced-nothing _ (NoReleaser _) _ (All-nil _)

pub returns-then-bytes-gt-MOST_BYTES-clause-balanced : goal.returns-then-bytes-gt-MOST_BYTES-clause-balanced
returns-then-bytes-gt-MOST_BYTES-clause-balanced g c = balanced-nothing _ (LengthLimit _) _ (All-nil _)

pub returns-in_err-pass-clause-refused : goal.returns-in_err-pass-clause-refused
returns-in_err-pass-clause-refused g c =
    external-limit c.from_residual.result _ _ (length c.args.bytes.now) _ c.args.w.now _ c.from_residual.ensures.1 (some-slot c.args.w.now.unused _ c.in-Some.ensures.next)
    (omega (arith, c.if-bytes-gt-MOST_BYTES.false)) c.in_err-pass.ensures.limit

pub returns-in_err-pass-clause-balanced : goal.returns-in_err-pass-clause-balanced
returns-in_err-pass-clause-balanced g c = balanced-limit_err _ _ _ _ _ c.from_residual.ensures.1 c.in_err-pass.ensures.limit c.in_err-pass.ensures.refused

pub returns-in-Ok-clause-made : goal.returns-in-Ok-clause-made
returns-in-Ok-clause-made g c =
    external-made g.P.Naming.size g.P.Naming.limit c.in-Ok.root c.args.bytes.now c.args.w.now c.pass.new.w c.new_external.new.w c.fill.new.w c.in_ok-pass.ensures.made
    c.in-Ok.ensures.node c.in-Ok.ensures.taken c.in-Ok.ensures.traded c.fill.ensures.filled c.fill.ensures.traded

pub returns-in-Err-clause-refused : goal.returns-in-Err-clause-refused
returns-in-Err-clause-refused g c =
    let size = g.P.Naming.size in
    let limit = g.P.Naming.limit in
    let n = length c.args.bytes.now in
    subst (λ (x : CordError). IsExternalRefused size limit n x c.args.w.now c.end.new.w) (sym c.into.ensures)
    (external-refused size limit n c.in-Err.error c.args.w.now _ _ c.end.new.w (some-slot c.args.w.now.unused _ c.in-Some.ensures.next) (omega (arith, c.if-bytes-gt-MOST_BYTES.false))
    c.in_ok-pass.ensures.made c.in-Err.ensures.height c.in-Err.ensures.cause c.end.ensures.ended)

pub returns-in-Err-clause-balanced : goal.returns-in-Err-clause-balanced
returns-in-Err-clause-balanced g c =
    let limit = g.P.Naming.limit in
    subst (λ (x : CordError). IsBalanced limit x c.args.w.now c.end.new.w) (sym c.into.ensures)
    (balanced-refused limit c.in-Err.error _ _ _ _ c.in_ok-pass.ensures.made c.in-Err.ensures.noted c.end.ensures.ended)
