-- What a released cord leaves, with a record or without one.
use Rattle.std.proofs.Common.{[], sym, ap, subst}
use Rattle.pool_rule.specs.Views.{View}
use Rattle.record_rule.specs.declared.views.TokenView.{TokenView}
use Rattle.cordz_desk.specs.Tokens.{token_of}
use Rattle.cord_value.specs.Views.{passes_of}
use Rattle.cord_value.specs.Workers.{Keeps}
use Rattle.cord_sampled.specs.Leaving.{IsGivenBack, IsLeft}
use Rattle.cord_sampled.specs.Sampled.{cord_in, ticket_in}
use Rattle.cord_sampled.proofs.Acting.{left-acts}
use Rattle.cord_sampled.proofs.GivenBack.{given-then}
use Rattle.cord_sampled.proofs.cord.SampledCord.release.Goals as goal
use Rattle.cord_sampled.proofs.cord.SampledCord.release.Goals.{in-Some, in-None}

left : goal.returns-clause-left
left g c =
    let limit = g.P.Naming.limit in
    let n = passes_of (cord_in c.args.self).tree in
    let a = token_of c.args.hand.now.pass in
    let b = token_of c.match-ticket.hand.pass in
    let u = c.args.hand.now.worker in
    let v = c.match-ticket.hand.worker in
    let w = c.release.new.w in
    elim c.match-ticket.branch [
      | in-Some x ↦
          let t = x.in-Some.ticket in
          let given = subst (λ (z : TokenView). IsGivenBack limit t 0 a z u v) (sym (ap (λ z. token_of z.pass) x.hand-is))
          (subst (λ (z : View). IsGivenBack limit t 0 a (token_of x.give_up-mark.new.hand.pass) u z) (sym (ap (λ z. z.worker) x.hand-is)) x.give_up-mark.ensures.given) in
          subst (λ o. IsLeft limit o n a b u w) (sym x.in-Some.is) (given-then limit t n a b u v w given c.release.ensures.worker)
      | in-None x ↦
          subst (λ o. IsLeft limit o n a b u w) (sym x.in-None.is)
          (ap (λ z. token_of z.pass) x.hand-is, subst (λ (z : View). Keeps limit [] 0 n z w) (ap (λ z. z.worker) x.hand-is) c.release.ensures.worker)
    ]

pub returns-clause-left : goal.returns-clause-left
returns-clause-left g c = left g c

pub returns-clause-acted : goal.returns-clause-acted
returns-clause-acted g c = left-acts g.P.Naming.limit (ticket_in c.args.self) (passes_of (cord_in c.args.self).tree) _ _ _ _ (left g c)
