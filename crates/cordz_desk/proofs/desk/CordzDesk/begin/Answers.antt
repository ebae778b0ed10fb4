-- What the proof of `CordzDesk::begin` needs beyond the search.
use Rattle.std.proofs.Common.{◌+◌, ℕ, MatchOption, Option, None, sym, ap, ◌∙◌, subst}
use Rattle.std.specs.Bool.{⊤}
use Rattle.turn_desk.specs.Passes.{desk_view}
use Rattle.record_rule.specs.declared.values.DeskValue.TheVariants.{Record}
use Rattle.record_rule.specs.World.{is_none}
use Rattle.cordz_desk.specs.declared.share.Share.{Share}
use Rattle.cordz_desk.specs.Owners.{slot_in, bare_in, notes_in, IsNewestTree}
use Rattle.cordz_desk.specs.Reps.{rep_of, holding}
use Rattle.cordz_desk.specs.Shares.{tree_in, IsShare}
use Rattle.cordz_desk.proofs.Sharing.{share_of, trees_of}
use Rattle.cordz_desk.proofs.Turning.{Owns, owner_found}
use Rattle.cordz_desk.proofs.desk.CordzDesk.begin.Goals as goal

pub returns-clause-change : goal.returns-clause-change
returns-clause-change g c =
    let e = c.enter_record-turn.ensures in
    let t = c.args.ticket.now in
    let x = c.enter_record-turn.result.taken.value in
    let o = subst (Owns tree_in IsShare (rep_of x)) (sym e.pass.1) (owner_found tree_in IsShare t.slot (rep_of x) (desk_view t.pass) e.found t.owner t.slotted) in
    record {
      place = e.place ∙ ap (λ (n : ℕ). n + 1) (t.slotted ∙ ap slot_in (sym e.pass.1));
      turn = e.turn;
      from = e.rep;
      value = c.take_share-share.ensures.rest ∙ ap (λ z. Record (holding None (rep_of z))) (c.value.ensures.value ∙ e.value);
      stamped = o.stamped;
      note = o.note;
      bare = o.bare;
      tree = trees_of (notes_in (desk_view c.enter_record-turn.new.pass)) (rep_of x).hold o.share;
    }

pub returns-clause-bare : goal.returns-clause-bare
returns-clause-bare g c =
    let e = c.enter_record-turn.ensures in
    let t = c.args.ticket.now in
    let x = c.enter_record-turn.result.taken.value in
    let o = subst (Owns tree_in IsShare (rep_of x)) (sym e.pass.1) (owner_found tree_in IsShare t.slot (rep_of x) (desk_view t.pass) e.found t.owner t.slotted) in
    ap is_none (c.take_share-share.ensures.share ∙ ap (λ z. (rep_of z).hold) (c.value.ensures.value ∙ e.value)) ∙ o.bare

pub returns-clause-share : goal.returns-clause-share
returns-clause-share g c =
    let e = c.enter_record-turn.ensures in
    let t = c.args.ticket.now in
    let x = c.enter_record-turn.result.taken.value in
    let o = subst (Owns tree_in IsShare (rep_of x)) (sym e.pass.1) (owner_found tree_in IsShare t.slot (rep_of x) (desk_view t.pass) e.found t.owner t.slotted) in
    let is = c.take_share-share.ensures.share ∙ ap (λ z. (rep_of z).hold) (c.value.ensures.value ∙ e.value) in
    share_of (notes_in (desk_view c.enter_record-turn.new.pass)) (bare_in (desk_view c.enter_record-turn.new.pass)) c.take_share-share.result
    (subst (λ (z : Option (Share g.row.P.Denot)). MatchOption z ⊤ (λ y. IsShare y × IsNewestTree (tree_in y) (notes_in (desk_view c.enter_record-turn.new.pass)))) (sym is) o.share)
    (ap is_none is ∙ o.bare)
