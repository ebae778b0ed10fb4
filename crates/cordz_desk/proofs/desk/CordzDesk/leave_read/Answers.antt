-- What the proof of `CordzDesk::leave_read` needs beyond the search.
use Rattle.std.proofs.Common.{sym, ap, subst}
use Rattle.turn_desk.specs.Passes.{desk_view}
use Rattle.record_rule.specs.declared.views.DeskView.{DeskView}
use Rattle.record_rule.specs.Steps.{Leaves}
use Rattle.cordz_desk.specs.Owners.{noted_as}
use Rattle.cordz_desk.specs.Reading.{reading_view}
use Rattle.cordz_desk.specs.Shares.{tree_in, IsShare}
use Rattle.cordz_desk.proofs.Turning.{reads}
use Rattle.cordz_desk.proofs.desk.CordzDesk.leave_read.Goals as goal

pub leave_to-requires-clause-leaves : goal.leave_to-requires-clause-leaves
leave_to-requires-clause-leaves g c =
    let r = c.requires in
    let t = c.args.turn in
    let v = desk_view c.args.pass.now in
    let n = noted_as c.args.note c.args.edge.now in
    subst (λ (w : DeskView). Leaves tree_in IsShare t.place t.taken.value t.value v w) (sym (ap (λ f. f v) r.after))
    (subst (λ l. Leaves tree_in IsShare l t.taken.value t.value v (reading_view n v)) (sym r.place)
    (reads tree_in IsShare c.args.slot t.taken.value t.value v n r.from r.copied.rep r.copied.kept r.copied.some r.copied.noted r.copied.tree r.token r.slot))
