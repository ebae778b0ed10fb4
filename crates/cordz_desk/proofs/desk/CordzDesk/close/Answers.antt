-- What the proof of `CordzDesk::close` needs beyond the search.
use Rattle.std.proofs.Common.{◌≡◌, sym, ap, ◌∙◌, subst, arith, map, Some}
use mathlib.Core.Option.{some}
use Rattle.turn_desk.specs.Passes.{desk_view, IsIdle}
use Rattle.record_rule.specs.declared.views.DeskView.{DeskView}
use Rattle.record_rule.specs.declared.views.DeskView.TheVariants.{Root}
use Rattle.cordz_desk.specs.Closed.{returned}
use Rattle.cordz_desk.specs.Keeps.{kept_in}
use Rattle.cordz_desk.specs.Seeing.{given_by, back_to, IsRootView}
use Rattle.cordz_desk.specs.Tokens.{token_of}
use Rattle.cordz_desk.proofs.Ends.{closed, many_left}
use Rattle.cordz_desk.proofs.desk.CordzDesk.close.Goals as goal

pub shares_left-requires-clause-room : goal.shares_left-requires-clause-room
shares_left-requires-clause-room g c =
    let e = c.close-values.ensures in
    let many = many_left e.spots e.views _ e.agreed e.given in
    let had = c.args.self.room in
    let got = c.into_room-room.ensures.room in
    omega arith

pub gathered-root-requires-clause-root : goal.gathered-root-requires-clause-root
gathered-root-requires-clause-root g c =
    let d = c.args.self in
    subst (λ r. (r.table_id ≡ d.parts.desk.table.shared.table_id) × IsIdle r) (sym c.into_value.ensures) (d.rooted ∙ sym d.named, d.idle)

pub gathered-root-requires-clause-first : goal.gathered-root-requires-clause-first
gathered-root-requires-clause-first g c = subst (λ r. IsRootView (desk_view r)) (sym c.into_value.ensures) c.args.self.parts.first

pub returns : goal.returns
returns g c =
    let e = c.close-values.ensures in
    let v = desk_view (kept_in c.args.self.parts.root) in
    let ps = map token_of c.args.passes.items in
    closed e.spots e.views _ (given_by v) (back_to v) ps _ _ e.agreed
    (e.mine ∙ ap (λ (z : DeskView). some (Some z)) (c.gathered-root.ensures.view ∙ ap (λ r. Root (given_by (desk_view r)) (returned ps (back_to (desk_view r)))) c.into_value.ensures)) e.given c.shares_left.ensures
