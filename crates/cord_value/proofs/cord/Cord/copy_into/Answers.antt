-- What a copy into a pass leaves a worker with.
use Rattle.std.proofs.Common.{[], sym, subst}
use Rattle.pool_rule.specs.Views.{View}
use Rattle.cord_value.specs.Workers.{Keeps}
use Rattle.cord_value.proofs.Balances.{if-ok, keeps-same, keeps-shared}
use Rattle.cord_value.proofs.cord.Cord.copy_into.Goals as goal
use Rattle.cord_value.proofs.cord.Cord.copy_into.Goals.{in-Inline, in-Tree+in-Ok}

pub returns-clause-worker : goal.returns-clause-worker
returns-clause-worker g c =
    let v = c.args.w.now in
    let limit = g.P.Naming.limit in
    if-ok c.match-self.result (Keeps limit [] 0 0 v c.match-self.w)
    (elim c.match-self.branch [
      | in-Inline w ↦ keeps-same limit v c.match-self.w w.w-is
      | in-Tree+in-Ok w ↦ subst (λ (z : View). Keeps limit [] 0 0 v z) (sym w.w-is) (keeps-shared limit _ v w.share_pass.new.w w.in-Tree.own w.share_pass.ensures.shared w.share_pass.ensures.same)
    ])
