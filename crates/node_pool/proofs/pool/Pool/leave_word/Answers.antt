-- What the proof of `Pool::leave_word` needs beyond the search.
use Rattle.std.proofs.Common.{refl, sym, ap, ◌∙◌, subst, arith}
use Rattle.std.specs.Option.{option_map}
use Rattle.node_forest.specs.Label.{number}
use Rattle.node_forest.specs.Members.{Occurs}
use Rattle.count_core.specs.Holders.{Fitting}
use Rattle.pool_rule.specs.Rules.{IsSane}
use Rattle.pool_rule.specs.Plays.{AreOneEach}
use Rattle.pool_rule.specs.Views.{View}
use Rattle.node_pool.specs.declared.outlet.Outlet.{Outlet}
use Rattle.node_pool.specs.Boxes.{box_of, pool_terms}
use Rattle.node_pool.specs.Tokens.{only}
use Rattle.node_pool.proofs.Calling.{nothing_out, box_out, left_at}
use Rattle.node_pool.proofs.Seats.{seated, views_at, token_at, low_held, leave_at, steady-leaving, worker_again}
use Rattle.node_pool.proofs.OwnSlots.{slots_stay}
use Rattle.node_pool.proofs.pool.Pool.leave_word.Goals as goal

pub fetch_sub-found-requires : goal.fetch_sub-found-requires
fetch_sub-found-requires g c =
    let w = seated c.replace.ensures.value c.w.invariant.1 c.w.view_is c.into_seat-seat.ensures in
    let pool = c.args.self.now in
    let t = g.T.Chosen.node in
    let low = low_held _ _ _ t w.known c.requires.held in
    let at = c.number.ensures ∙ ap number c.requires.node in (
      w.table ∙ sym pool.named,
      omega (arith, low, at, pool.wide),
      leave_at _ _ _ _ g.P.Naming.size g.P.Naming.limit _ c.args.w.now t w.is w.known at pool.sized.1 _ (λ q. pool_terms (pool.sized.1 q) (pool.workers q) (pool.boxed q) (option_map (λ (o : Outlet g.row.B.Denot g.B.Releaser). box_of o.before o.latest o.length))) c.requires.held c.requires.room,
    )

pub settle-seat-requires-clause-table : goal.settle-seat-requires-clause-table
settle-seat-requires-clause-table g c =
    let w = seated c.replace.ensures.value c.w.invariant.1 c.w.view_is c.into_seat-seat.ensures in
    c.fetch_sub-found.ensures.0 ∙ w.table

pub settle-seat-requires-clause-worker : goal.settle-seat-requires-clause-worker
settle-seat-requires-clause-worker g c =
    let w = seated c.replace.ensures.value c.w.invariant.1 c.w.view_is c.into_seat-seat.ensures in
    let f = c.fetch_sub-found.ensures.2 in
    (omega (arith, c.w.invariant.0), omega (arith, ap (λ (v : View). v.spare) f.view, ap (λ (v : View). v.spare) w.is, w.known.spare), f.sane, f.fits)

pub settle-seat-requires-clause-plain : goal.settle-seat-requires-clause-plain
settle-seat-requires-clause-plain g c = nothing_out _ _ _ _ g.T.Chosen.node c.args.edge.now c.requires.node _ _ _ c.fetch_sub-found.ensures.2 c.into_seat-seat.ensures.3

pub settle-seat-requires-clause-last : goal.settle-seat-requires-clause-last
settle-seat-requires-clause-last g c = box_out _ _ _ _ g.T.Chosen.node c.args.edge.now c.requires.node _ _ _ c.fetch_sub-found.ensures.2 c.into_seat-seat.ensures.3

pub invariant_of-w : goal.invariant_of-w
invariant_of-w g c =
    let w = seated c.replace.ensures.value c.w.invariant.1 c.w.view_is c.into_seat-seat.ensures in
    let t = g.T.Chosen.node in
    let e = c.settle-seat.ensures in
    let last = left_at c.fetch_sub-found.result t w c.fetch_sub-found.ensures.2.view e.table e.homed in (
      c.w.invariant.0,
      token_at last c.into_badge.ensures
          (worker_again _ _ c.args.w.now _ w.known (steady-leaving _ t _)
          (subst (λ (v : View). IsSane v.size v) last.is e.worker.0)
          (subst (λ (v : View). Fitting v.size v.holds) last.is e.worker.1)),
      slots_stay _ _ _ _ _ c.w.invariant.2 c.w.view_is (views_at last c.into_badge.ensures) refl refl,
    )

pub returns-clause-left : goal.returns-clause-left
returns-clause-left g c =
    let w = seated c.replace.ensures.value c.w.invariant.1 c.w.view_is c.into_seat-seat.ensures in
    let last = left_at c.fetch_sub-found.result g.T.Chosen.node w c.fetch_sub-found.ensures.2.view c.settle-seat.ensures.table c.settle-seat.ensures.homed in
    ap only (views_at last c.into_badge.ensures)

pub returns-clause-gone : goal.returns-clause-gone
returns-clause-gone g c = λ last o.
    c.fetch_sub-found.ensures.2.gone last (subst (λ (v : View). Occurs g.T.Chosen.node v.holds) (ap only c.into_badge.ensures.2 ∙ ap (λ x. x.0) c.settle-seat.ensures.homed) o)

pub returns-clause-one_each : goal.returns-clause-one_each
returns-clause-one_each g c =
    let w = seated c.replace.ensures.value c.w.invariant.1 c.w.view_is c.into_seat-seat.ensures in
    subst (λ (v : View). AreOneEach v.holds) w.is c.fetch_sub-found.ensures.2.one_each
