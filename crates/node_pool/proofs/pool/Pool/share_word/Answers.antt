-- What the proof of `Pool::share_word` needs beyond the search.
use Rattle.std.proofs.Common.{refl, sym, ap, ◌∙◌, arith}
use Rattle.node_forest.specs.Label.{number}
use Rattle.pool_rule.specs.Views.{sharing}
use Rattle.node_pool.proofs.Seats.{seated, at_of, told_at, views_at, low_stands, share_at, steady-sharing, worker_told}
use Rattle.node_pool.proofs.OwnSlots.{slots_stay}
use Rattle.node_pool.proofs.pool.Pool.share_word.Goals as goal

pub fetch_add-requires : goal.fetch_add-requires
fetch_add-requires g c =
    let w = seated c.replace.ensures.value c.w.invariant.1 c.w.view_is c.into_seat-seat.ensures in
    let pool = c.args.self.now in
    let t = g.T.Chosen.node in
    let low = low_stands _ _ _ t w.known c.requires.stands in
    let at = c.number.ensures ∙ ap number c.requires.node in (
      w.table ∙ sym pool.named,
      omega (arith, low, at, pool.wide),
      share_at _ _ _ _ g.P.Naming.size g.P.Naming.limit _ c.args.w.now t w.is w.known at pool.sized.1 pool.small c.requires.stands c.requires.room,
    )

pub invariant_of-w : goal.invariant_of-w
invariant_of-w g c =
    let w = seated c.replace.ensures.value c.w.invariant.1 c.w.view_is c.into_seat-seat.ensures in
    let f = c.fetch_add.ensures in
    let last = told_at (at_of w) (sharing g.T.Chosen.node) f in (
      c.w.invariant.0,
      worker_told c.into_seat-seat.result.me w (steady-sharing _ _) f.0 f.2 c.into_badge.ensures,
      slots_stay _ _ _ _ _ c.w.invariant.2 c.w.view_is (views_at last c.into_badge.ensures) refl refl,
    )
