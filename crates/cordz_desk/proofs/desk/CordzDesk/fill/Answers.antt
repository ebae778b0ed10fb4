-- What the proof of `CordzDesk::fill` needs beyond the search.
use Rattle.std.proofs.Common.{◌≡◌, Some, sym, refl, subst}
use Rattle.turn_desk.specs.Passes.{desk_view}
use Rattle.record_rule.specs.declared.values.DeskValue.{DeskValue}
use Rattle.record_rule.specs.declared.values.DeskValue.TheVariants.{Record}
use Rattle.record_rule.specs.declared.values.Rep.{Rep}
use Rattle.record_rule.specs.declared.views.Claim.TheVariants.{Promised, Written}
use Rattle.record_rule.specs.declared.views.DeskView.{DeskView}
use Rattle.record_rule.specs.Steps.{Leaves}
use Rattle.record_rule.specs.Views.{claim_at, claiming_view, token_in, IsTokenView}
use Rattle.record_rule.specs.World.{note_of}
use Rattle.cordz_desk.specs.Reps.{rep_of, noted_of}
use Rattle.cordz_desk.specs.Shares.{tree_in, IsShare}
use Rattle.cordz_desk.specs.declared.share.Share.{Share}
use Rattle.cordz_desk.proofs.Turning.{writes}
use Rattle.cordz_desk.proofs.desk.CordzDesk.fill.Goals as goal

pub leave_to-requires-clause-leaves : goal.leave_to-requires-clause-leaves
leave_to-requires-clause-leaves g c =
    let e = c.enter_record-turn.ensures in
    let s = c.args.slot in
    let w = desk_view c.enter_record-turn.new.pass in
    let x = c.enter_record-turn.result.taken.value in
    let r : Rep (Share g.row.P.Denot) = record { stamp = c.args.stamp; update = 0; length = c.length-length.result; method = c.args.method; hold = Some c.args.share } in
    subst (λ (z : DeskValue (Share g.row.P.Denot)). Leaves tree_in IsShare c.enter_record-turn.result.place x z w (claiming_view s (Written (rep_of z).stamp (noted_of (rep_of z))) w)) (sym c.write.ensures)
    (subst (λ z. Leaves tree_in IsShare z x (Record r) w (claiming_view s (Written r.stamp (noted_of r)) w)) (sym e.place)
    (writes tree_in IsShare s x (Record r) w r (record { note = note_of r; tree = tree_in c.args.share }) e.rep refl
    (subst IsTokenView (sym e.pass.1) c.requires.token) (subst (λ (z : DeskView). claim_at (token_in z).claims s ≡ Promised c.args.stamp) (sym e.pass.1) c.requires.claim)
    (record { note = refl; long = c.length-length.ensures.is; some = refl; share = (c.requires.share, refl) })))
