-- A cord is released with its record, or there is none.
use Rattle.std.proofs.Common.{sym, subst, refl}
use Rattle.cordz_desk.specs.Tokens.{token_of}
use Rattle.sampled_commands.specs.Accounts.{seen, trees_if, records_if, AddsUpTo}
use Rattle.sampled_commands.specs.Leaving.{GivesUp}
use Rattle.sampled_commands.proofs.GivenUp.{let-gone}
use Rattle.sampled_commands.proofs.Ongoing.{ongoing-same}
use Rattle.sampled_commands.proofs.lending.let_go.Goals as goal

pub returns-in-Some-clause-even : goal.returns-in-Some-clause-even
returns-in-Some-clause-even g c =
    let h = c.args.hand.now in
    let i = c.release.new.hand in
    let v = seen h.worker (token_of h.pass) h.made in
    let w = seen i.worker (token_of i.pass) i.made in
    subst (λ o. AddsUpTo v w (trees_if o) 0 (records_if o) 0) (sym c.in-Some.is)
    (let-gone g.P.Naming.limit c.into_sampled.result c.in-Some.cord v w c.into_sampled.ensures.view c.into_sampled.ensures.form c.release.ensures.left).even

pub returns-in-Some-clause-desk : goal.returns-in-Some-clause-desk
returns-in-Some-clause-desk g c =
    let h = c.args.hand.now in
    let i = c.release.new.hand in
    let v = seen h.worker (token_of h.pass) h.made in
    let w = seen i.worker (token_of i.pass) i.made in
    subst (λ o. GivesUp o v.token w.token) (sym c.in-Some.is)
    (let-gone g.P.Naming.limit c.into_sampled.result c.in-Some.cord v w c.into_sampled.ensures.view c.into_sampled.ensures.form c.release.ensures.left).given

pub returns-in-None-clause-ongoing : goal.returns-in-None-clause-ongoing
returns-in-None-clause-ongoing g c = ongoing-same _ _ refl refl
