-- What the proof of `Pool::look_word` needs beyond the search.
use Rattle.std.proofs.Common.{sym, ap, ◌∙◌, arith}
use Rattle.node_forest.specs.Label.{number}
use Rattle.pool_rule.specs.Views.{looking}
use Rattle.node_pool.specs.Tokens.{only}
use Rattle.node_pool.proofs.Walks.{looking-holds}
use Rattle.node_pool.proofs.Seats.{seated, at_of, told_at, views_at, low_reached, look_at, steady-looking, worker_told}
use Rattle.node_pool.proofs.OwnSlots.{slots_looked}
use Rattle.node_pool.proofs.pool.Pool.look_word.Goals as goal

pub load-found-requires : goal.load-found-requires
load-found-requires g c =
    let w = seated c.replace.ensures.value c.w.invariant.1 c.w.view_is c.into_seat-seat.ensures in
    let pool = c.args.self.now in
    let t = g.T.Chosen.node in
    let low = low_reached _ _ _ t w.known c.requires.reached in
    let at = c.number.ensures ∙ ap number c.requires.node in (
      w.table ∙ sym pool.named,
      omega (arith, low, at, pool.wide),
      look_at _ _ _ _ g.P.Naming.size g.P.Naming.limit _ c.args.w.now t w.is w.known at pool.sized.1 c.requires.reached,
    )

pub invariant_of-w : goal.invariant_of-w
invariant_of-w g c =
    let w = seated c.replace.ensures.value c.w.invariant.1 c.w.view_is c.into_seat-seat.ensures in
    let f = c.load-found.ensures in
    let t = g.T.Chosen.node in
    let last = told_at (at_of w) (looking c.load-found.result t) f in (
      c.w.invariant.0,
      worker_told c.into_seat-seat.result.me w (steady-looking _ t _) f.0 f.2 c.into_badge.ensures,
      slots_looked _ _ c.load-found.result t _ c.args.w.now c.w.invariant.2 c.w.view_is (views_at last c.into_badge.ensures),
    )

pub returns-clause-holds : goal.returns-clause-holds
returns-clause-holds g c =
    let w = seated c.replace.ensures.value c.w.invariant.1 c.w.view_is c.into_seat-seat.ensures in
    let t = g.T.Chosen.node in
    let last = told_at (at_of w) (looking c.load-found.result t) c.load-found.ensures in
    looking-holds c.load-found.result t c.args.w.now _ (ap only (views_at last c.into_badge.ensures))
