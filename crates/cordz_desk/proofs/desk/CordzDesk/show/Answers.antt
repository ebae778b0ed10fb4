-- What the proof of `CordzDesk::show` needs beyond the search.
use Rattle.std.proofs.Common.{ap, ◌∙◌, subst}
use Rattle.turn_desk.specs.Agreements.{AgreedBoth}
use Rattle.turn_desk.specs.Passes.{desk_view}
use Rattle.record_rule.specs.declared.views.DeskView.{DeskView}
use Rattle.record_rule.specs.World.{Stands}
use Rattle.cordz_desk.specs.Owners.{seeing_view}
use Rattle.cordz_desk.specs.Shares.{tree_in, IsShare}
use Rattle.cordz_desk.proofs.Showing.{shows, shown_apart}
use Rattle.cordz_desk.proofs.desk.CordzDesk.show.Goals as goal

pub returns-clause-shown : goal.returns-clause-shown
returns-clause-shown g c =
    let v = desk_view c.args.pass.now.pass in
    let w = desk_view c.args.ticket.now.pass in
    let lent = c.split-lent.ensures.views.1 in
    let agreed = subst (λ (z : DeskView). AgreedBoth (Stands tree_in IsShare) v z) lent c.merge.ensures.agreed in
    shows v w (desk_view c.merge.new.into) (desk_view c.split-back.new.from) (c.merge.ensures.view ∙ ap (seeing_view v) lent) c.split-back.ensures.views.0
    (shown_apart tree_in IsShare v w agreed c.args.pass.now.token c.args.ticket.now.owner).0

pub returns-clause-earlier : goal.returns-clause-earlier
returns-clause-earlier g c =
    let v = desk_view c.args.pass.now.pass in
    let w = desk_view c.args.ticket.now.pass in
    let agreed = subst (λ (z : DeskView). AgreedBoth (Stands tree_in IsShare) v z) c.split-lent.ensures.views.1 c.merge.ensures.agreed in
    (shown_apart tree_in IsShare v w agreed c.args.pass.now.token c.args.ticket.now.owner).1
