-- What the pass of a record leaves.
use Rattle.std.proofs.Common.{refl, sym, subst}
use Rattle.cord_value.specs.Refusals.{IsBalanced}
use Rattle.cord_value.specs.declared.refusals.CordError.{CordError}
use Rattle.cord_value.proofs.Balances.{balanced-limit, keeps-same}
use Rattle.cord_sampled.proofs.Keeping.{keeps-passed}
use Rattle.cord_sampled.proofs.sampling.sample_pass.Goals as goal

pub returns-then-not-wanted-clause-worker : goal.returns-then-not-wanted-clause-worker
returns-then-not-wanted-clause-worker g c = keeps-same _ _ _ refl

pub returns-in-Ok-clause-worker : goal.returns-in-Ok-clause-worker
returns-in-Ok-clause-worker g c = keeps-passed _ _ _ c.in-Ok.ensures.made

pub returns-in-Err-clause-balanced : goal.returns-in-Err-clause-balanced
returns-in-Err-clause-balanced g c =
    let limit = g.P.Naming.limit in
    subst (λ (x : CordError). IsBalanced limit x c.args.w.now c.pass.new.w) (sym c.into.ensures)
    (balanced-limit limit _ _ _ c.in-Err.ensures.limit c.in-Err.ensures.refused)
