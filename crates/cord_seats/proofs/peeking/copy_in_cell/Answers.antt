-- A copy has the pass, or the pass ends.
use Rattle.std.proofs.Common.{rules, subst}
use Rattle.cord_commands.specs.Accounts.{IsSteady}
use Rattle.cord_seats.specs.Peeks.{copied_trees}
use Rattle.cord_seats.proofs.Copies.{peeked-steady}
use Rattle.cord_seats.proofs.peeking.copy_in_cell.Goals as goal

pub returns-clause-steady : goal.returns-clause-steady
returns-clause-steady g c =
    let d = c.peek-copied.ensures.did in
    let steady = peeked-steady g.P.Naming.limit (λ z. z.worker.now) (λ z. z.pass) _ d.0 c.peek-copied.result _ c.peek-copied.new.with _ c.requires.pass d.1 c.end_pass.ensures.worker in
    subst (λ z. IsSteady c.args.w.now z 1 (copied_trees c.peek-copied.result)) (search rules) steady
