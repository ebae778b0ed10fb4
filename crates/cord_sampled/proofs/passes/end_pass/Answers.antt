-- What a pass that ends leaves.
use Rattle.std.proofs.Common.{ℕ, [], refl, sym, ap, subst}
use Rattle.cord_value.specs.Workers.{Keeps}
use Rattle.cord_value.proofs.Balances.{keeps-same}
use Rattle.cord_sampled.specs.Copies.{one_if}
use Rattle.cord_sampled.proofs.Keeping.{keeps-ended}
use Rattle.cord_sampled.proofs.passes.end_pass.Goals as goal

pub returns-in-Some : goal.returns-in-Some
returns-in-Some g c =
    subst (λ (n : ℕ). Keeps g.P.Naming.limit [] 0 n c.args.w.now c.end.new.w) (sym (ap one_if c.in-Some.is)) (keeps-ended _ _ _ c.end.ensures.ended)

pub returns-in_default : goal.returns-in_default
returns-in_default g c =
    subst (λ (n : ℕ). Keeps g.P.Naming.limit [] 0 n c.args.w.now c.args.w.now) (sym (ap one_if c.in_default.is)) (keeps-same _ _ _ refl)
