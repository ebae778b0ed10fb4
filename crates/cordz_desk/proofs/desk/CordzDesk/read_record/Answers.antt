-- What the proof of `CordzDesk::read_record` needs beyond the search.
use Rattle.std.proofs.Common.{◌≡◌, MatchOption, sym, ap, ◌∙◌, subst}
use Rattle.std.specs.Bool.{⊤}
use Rattle.turn_desk.specs.Passes.{desk_view}
use Rattle.record_rule.specs.Notes.{NoneShownLater}
use Rattle.record_rule.specs.declared.values.Note.{Note}
use Rattle.record_rule.specs.Views.{token_in}
use Rattle.record_rule.specs.World.{note_of}
use Rattle.cordz_desk.specs.Reps.{rep_of}
use Rattle.cordz_desk.specs.Shares.{tree_in, IsShare}
use Rattle.cordz_desk.proofs.Turning.{found_fits, read_found}
use Rattle.cordz_desk.proofs.desk.CordzDesk.read_record.Goals as goal

pub copied-requires-clause-share : goal.copied-requires-clause-share
copied-requires-clause-share g c =
    let e = c.enter_record-turn.ensures in
    subst (λ z. MatchOption (rep_of z).hold ⊤ IsShare) (sym (c.value.ensures.value ∙ e.value))
    (found_fits tree_in IsShare c.args.slot (rep_of c.enter_record-turn.result.taken.value) (desk_view c.args.pass.now.pass) e.found c.requires.slot)

pub returns-in-Ok-clause-length : goal.returns-in-Ok-clause-length
returns-in-Ok-clause-length g c =
    let e = c.enter_record-turn.ensures in
    let k = c.in-Ok.ensures.copied in
    let is = c.value.ensures.value ∙ e.value in
    let t = c.in-Ok.edge in
    let r = rep_of c.enter_record-turn.result.taken.value in
    let f = read_found tree_in IsShare c.args.slot r (desk_view c.args.pass.now.pass) t e.found c.args.pass.now.token c.requires.slot
    (subst (λ z. MatchOption (rep_of z).hold ⊥ (λ o. tree_in o ≡ t)) is k.tree) in
    ap (λ z. z.length) (k.noted ∙ ap (λ z. note_of (rep_of z)) is) ∙ f.0

pub returns-in-Ok-clause-later : goal.returns-in-Ok-clause-later
returns-in-Ok-clause-later g c =
    let e = c.enter_record-turn.ensures in
    let k = c.in-Ok.ensures.copied in
    let is = c.value.ensures.value ∙ e.value in
    let t = c.in-Ok.edge in
    let v = desk_view c.args.pass.now.pass in
    let r = rep_of c.enter_record-turn.result.taken.value in
    let f = read_found tree_in IsShare c.args.slot r v t e.found c.args.pass.now.token c.requires.slot
    (subst (λ z. MatchOption (rep_of z).hold ⊥ (λ o. tree_in o ≡ t)) is k.tree) in
    subst (λ (n : Note). NoneShownLater n.stamp n.update (token_in v).shown) (sym (k.noted ∙ ap (λ z. note_of (rep_of z)) is)) f.1
