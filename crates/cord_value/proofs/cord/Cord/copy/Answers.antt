-- What a copy, and a refused one, leave a worker with.
use Rattle.std.proofs.Common.{ℕ, [], refl, sym, subst, ap, ◌∙◌}
use Rattle.node_pool.specs.declared.refusals.NodeError.TheVariants.{Memory}
use Rattle.cord_value.specs.Forms.{view_of}
use Rattle.cord_value.specs.Views.{CordView, passes_of}
use Rattle.cord_value.specs.Workers.{Keeps}
use Rattle.cord_value.proofs.Balances.{keeps-same, keeps-copied, balanced-limit_err, balanced-refused}
use Rattle.cord_value.proofs.cord.Cord.copy.Goals as goal

pub returns-in-Inline-clause-worker : goal.returns-in-Inline-clause-worker
returns-in-Inline-clause-worker g c = keeps-same _ _ _ refl

pub returns-in_err-pass-clause-balanced : goal.returns-in_err-pass-clause-balanced
returns-in_err-pass-clause-balanced g c = balanced-limit_err _ _ _ _ _ c.from_residual.ensures.1 c.in_err-pass.ensures.limit c.in_err-pass.ensures.refused

pub returns-in-Ok-clause-worker : goal.returns-in-Ok-clause-worker
returns-in-Ok-clause-worker g c =
    let v = c.args.w.now in
    let one = ap (λ (z : CordView). passes_of z.tree) (c.in-Ok.ensures.same ∙ (sym c.self.view_is ∙ ap view_of c.in_default.is)) in
    subst (λ (n : ℕ). Keeps g.P.Naming.limit [] n 0 v c.copy_into.new.w) (sym one)
    (keeps-copied _ v c.pass.new.w c.copy_into.new.w c.in_ok-pass.ensures.made c.in-Ok.ensures.worker)

pub returns-clause-balanced : goal.returns-clause-balanced
returns-clause-balanced g c = balanced-refused _ Memory _ _ _ _ c.in_ok-pass.ensures.made c.in-Err.ensures.refused.1 c.end.ensures.ended
