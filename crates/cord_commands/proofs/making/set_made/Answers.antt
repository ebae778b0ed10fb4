-- A refused cord changes nothing.
use Rattle.std.proofs.Common.{ap, refl, [], sum_by, arith}
use Rattle.cord_commands.specs.Accounts.{trees_of, trees_made}
use Rattle.cord_commands.proofs.Steady.{stay-steady, steady-shift, keeps-steady}
use Rattle.cord_commands.proofs.making.set_made.Goals as goal

pub returns-in-Err-clause-steady : goal.returns-in-Err-clause-steady
returns-in-Err-clause-steady g c = stay-steady _ _ _ _ refl (omega (arith, ap trees_made c.in-Err.is))

pub returns-in-Ok-set-clause-steady : goal.returns-in-Ok-set-clause-steady
returns-in-Ok-set-clause-steady g c =
    let weights = c.in-Ok-set.ensures.weights trees_of in
    let made = ap trees_made c.in-Ok.is in
    steady-shift _ _ _ _ _ _ c.let_go.ensures.worker (omega arith)

pub returns-in-Err-set-clause-steady : goal.returns-in-Err-set-clause-steady
returns-in-Err-set-clause-steady g c =
    let kept = ap (sum_by trees_of) c.in-Err-set.ensures.kept.1 in
    let made = ap trees_made c.in-Ok.is in
    let back = ap trees_of c.in-Err-set.ensures.back in
    keeps-steady g.P.Naming.limit [] 0 (trees_of c.in-Err-set.cord) _ _ _ _ c.release.ensures.worker (omega arith)
