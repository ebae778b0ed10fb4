-- What passes that are made leave, and refused ones.
use Rattle.std.proofs.Common.{[], sym, subst}
use Rattle.cord_value.specs.Refusals.{IsBalanced}
use Rattle.cord_value.specs.declared.refusals.CordError.{CordError}
use Rattle.cord_value.proofs.Balances.{balanced-limit, balanced-limit_err}
use Rattle.cord_sampled.proofs.Keeping.{keeps-then, keeps-passed, keeps-ended, balanced-within}
use Rattle.cord_sampled.proofs.waiting.ready.Goals as goal

pub returns-in_err-copy-clause-balanced : goal.returns-in_err-copy-clause-balanced
returns-in_err-copy-clause-balanced g c = balanced-limit_err _ _ _ _ _ c.from_residual.ensures.1 c.in_err-copy.ensures.limit c.in_err-copy.ensures.refused

pub returns-then-hand-eq0-clause-worker : goal.returns-then-hand-eq0-clause-worker
returns-then-hand-eq0-clause-worker g c = keeps-passed _ _ _ c.in_ok-copy.ensures.made

pub returns-in-Ok-clause-worker : goal.returns-in-Ok-clause-worker
returns-in-Ok-clause-worker g c = keeps-then _ [] [] 1 0 1 0 _ _ _ (keeps-passed _ _ _ c.in_ok-copy.ensures.made) (keeps-passed _ _ _ c.in-Ok.ensures.made)

pub returns-in-Err-clause-balanced : goal.returns-in-Err-clause-balanced
returns-in-Err-clause-balanced g c =
    let limit = g.P.Naming.limit in
    subst (λ (x : CordError). IsBalanced limit x c.args.hand.now.worker c.end.new.w) (sym c.into.ensures)
    (balanced-within limit _ [] [] 1 _ _ _ _ (keeps-passed limit _ _ c.in_ok-copy.ensures.made) (balanced-limit limit _ _ _ c.in-Err.ensures.limit c.in-Err.ensures.refused)
    (keeps-ended limit _ _ c.end.ensures.ended))
