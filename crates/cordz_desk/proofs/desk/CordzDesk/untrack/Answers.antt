-- What the proof of `CordzDesk::untrack` needs beyond the search.
use Rattle.std.proofs.Common.{sym, ap, ◌∙◌, subst}
use Rattle.turn_desk.specs.Passes.{desk_view}
use Rattle.record_rule.specs.declared.views.Claim.TheVariants.{Owned}
use Rattle.record_rule.specs.declared.views.Deed.TheVariants.{Unlink, Settle}
use Rattle.record_rule.specs.Views.{claiming, done, token_in}
use Rattle.cordz_desk.specs.Owners.{stamp_in, notes_in, bare_in}
use Rattle.cordz_desk.specs.Tokens.{token_of, IsGivenUp}
use Rattle.cordz_desk.proofs.GivenUp.{given_back}
use Rattle.cordz_desk.proofs.desk.CordzDesk.untrack.Goals as goal

pub returns-in-Deleted-clause-given : goal.returns-in-Deleted-clause-given
returns-in-Deleted-clause-given g c =
    let t = c.args.ticket in
    let w = desk_view t.pass in
    let p = token_of c.args.pass.now in
    let m = token_in (desk_view c.merge.new.into) in
    let v = desk_view c.unlink_and_settle.new.pass in
    let u = c.unlink_and_settle.ensures.done in
    let k = c.clear.ensures in
    let own = (token_in (desk_view c.clear.new.pass)).own in
    subst (λ z. IsGivenUp p own z (notes_in w) (bare_in w) c.clear.result) t.slotted
    (given_back t.slot (stamp_in w) u.0 u.1 k.done.0 (notes_in w) (bare_in w) p m (token_in (desk_view c.clear.new.pass)) v k.found.0 c.clear.result
    (ap token_in c.merge.ensures.view ∙ ap (λ z. claiming z (Owned (stamp_in w) (notes_in w) (bare_in w)) p) (sym t.slotted))
    (u.2 ∙ ap (λ a. done u.1 (Settle t.slot a) (done u.0 (Unlink t.slot) m)) c.in-Deleted.is)
    k.done.1 c.unlink_and_settle.ensures.token t.small k.found.1 k.found.2)
