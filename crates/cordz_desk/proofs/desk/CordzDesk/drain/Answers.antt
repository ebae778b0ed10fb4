-- What the proof of `CordzDesk::drain` needs beyond the search.
use Rattle.std.proofs.Common.{None, sym, ap, ◌∙◌, subst}
use Rattle.turn_desk.specs.Passes.{desk_view}
use Rattle.record_rule.specs.declared.values.DeskValue.TheVariants.{Record}
use Rattle.record_rule.specs.declared.views.Claim.TheVariants.{Emptied}
use Rattle.record_rule.specs.declared.views.DeskView.{DeskView}
use Rattle.record_rule.specs.Steps.{Leaves}
use Rattle.record_rule.specs.Views.{claim_at, claiming_view, token_in, IsTokenView}
use Rattle.cordz_desk.specs.Reps.{rep_of, IsRep, holding}
use Rattle.cordz_desk.specs.Shares.{tree_in, IsShare}
use Rattle.cordz_desk.specs.Tokens.{IsCleared}
use Rattle.cordz_desk.proofs.Turning.{drains}
use Rattle.cordz_desk.proofs.desk.CordzDesk.drain.Goals as goal

pub take_share-share-requires : goal.take_share-share-requires
take_share-share-requires g c = record { rep = subst IsRep (sym (c.value.ensures.value ∙ c.enter_record-turn.ensures.value)) c.enter_record-turn.ensures.rep }

pub leave_to-requires-clause-leaves : goal.leave_to-requires-clause-leaves
leave_to-requires-clause-leaves g c =
    let e = c.enter_record-turn.ensures in
    let s = c.args.slot in
    let w = desk_view c.enter_record-turn.new.pass in
    let x = c.enter_record-turn.result.taken.value in
    let y = c.take_share-share.new.value in
    subst (λ z. Leaves tree_in IsShare z x y w (claiming_view s Emptied w)) (sym e.place)
    (drains tree_in IsShare s x y w e.rep (c.take_share-share.ensures.rest ∙ ap (λ z. Record (holding None (rep_of z))) (c.value.ensures.value ∙ e.value))
    (subst IsTokenView (sym e.pass.1) c.requires.token) (subst (λ (z : DeskView). IsCleared (claim_at (token_in z).claims s)) (sym e.pass.1) c.requires.claim))

pub returns-clause-view : goal.returns-clause-view
returns-clause-view g c = c.leave_to.ensures.view ∙ ap (claiming_view c.args.slot Emptied) c.enter_record-turn.ensures.pass.1

pub returns-clause-found : goal.returns-clause-found
returns-clause-found g c =
    let e = c.enter_record-turn.ensures in
    (rep_of c.enter_record-turn.result.taken.value, e.found, c.take_share-share.ensures.share ∙ ap (λ z. (rep_of z).hold) (c.value.ensures.value ∙ e.value))
