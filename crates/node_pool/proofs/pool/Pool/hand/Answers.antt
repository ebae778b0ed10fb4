-- What the proof of `Pool::hand` needs beyond the search.
use Rattle.std.proofs.Common.{[], ◌∷◌, refl, sym, ap, ◌∙◌, subst, arith}
use Rattle.pool_rule.specs.Trades.{Trades}
use Rattle.pool_rule.specs.Views.{View, giving}
use Rattle.pool_rule.proofs.Giving.{gives-trades}
use Rattle.node_pool.specs.Tokens.{only}
use Rattle.node_pool.proofs.Seats.{seated, said_as, split_at, views_at, token_at}
use Rattle.node_pool.proofs.Passing.{join_at, drawn_at, hand_at, filled_is, filled_worker, given_at}
use Rattle.node_pool.proofs.OwnSlots.{slots_stay}
use Rattle.node_pool.proofs.pool.Pool.hand.Goals as goal

pub join_seat-requires : goal.join_seat-requires
join_seat-requires g c =
    let w = seated c.replace.ensures.value c.w.invariant.1 c.w.view_is c.into_seat-seat.ensures in
    let p = seated c.replace-2.ensures.value c.p.invariant c.p.view_is c.into_seat-other.ensures in
    let pool = c.args.self.now in
    (w.table ∙ sym pool.named, p.table ∙ sym pool.named, c.into_seat-other.ensures.3, omega (arith, pool.wide), join_at g.P.Naming.size g.P.Naming.limit _ _ _ _ _ _ _ w.is p.is w.known p.known)

pub split_seat-filled-requires : goal.split_seat-filled-requires
split_seat-filled-requires g c =
    let w = seated c.replace.ensures.value c.w.invariant.1 c.w.view_is c.into_seat-seat.ensures in
    let p = seated c.replace-2.ensures.value c.p.invariant c.p.view_is c.into_seat-other.ensures in
    let n = g.P.Naming.size in
    let m = g.P.Naming.limit in
    let pool = c.args.self.now in
    let with = drawn_at n m w p c.join_seat.ensures in
    (with.table ∙ sym pool.named, omega (arith, pool.wide), hand_at n m _ _ _ _ _ g.T.Chosen.node with.is w.known p.known c.requires.empty c.requires.held)

pub invariant_of-w : goal.invariant_of-w
invariant_of-w g c =
    let w = seated c.replace.ensures.value c.w.invariant.1 c.w.view_is c.into_seat-seat.ensures in
    let p = seated c.replace-2.ensures.value c.p.invariant c.p.view_is c.into_seat-other.ensures in
    let n = g.P.Naming.size in
    let m = g.P.Naming.limit in
    let t = g.T.Chosen.node in
    let last = said_as (split_at (drawn_at n m w p c.join_seat.ensures) (giving t) c.split_seat-filled.ensures) (filled_is n m t _ _ w.known p.known c.requires.empty) in (
      c.w.invariant.0,
      token_at last c.into_badge.ensures (filled_worker n m t _ w.known c.requires.held),
      slots_stay _ _ _ _ _ c.w.invariant.2 c.w.view_is (views_at last c.into_badge.ensures) refl refl,
    )

pub invariant_of-p : goal.invariant_of-p
invariant_of-p g c =
    let w = seated c.replace.ensures.value c.w.invariant.1 c.w.view_is c.into_seat-seat.ensures in
    let p = seated c.replace-2.ensures.value c.p.invariant c.p.view_is c.into_seat-other.ensures in
    let n = g.P.Naming.size in
    let m = g.P.Naming.limit in
    given_at n m g.T.Chosen.node (drawn_at n m w p c.join_seat.ensures) c.split_seat-filled.ensures c.into_badge-2.ensures w.known c.requires.held refl refl

pub returns-clause-traded : goal.returns-clause-traded
returns-clause-traded g c =
    let w = seated c.replace.ensures.value c.w.invariant.1 c.w.view_is c.into_seat-seat.ensures in
    let p = seated c.replace-2.ensures.value c.p.invariant c.p.view_is c.into_seat-other.ensures in
    let n = g.P.Naming.size in
    let m = g.P.Naming.limit in
    let t = g.T.Chosen.node in
    let last = said_as (split_at (drawn_at n m w p c.join_seat.ensures) (giving t) c.split_seat-filled.ensures) (filled_is n m t _ _ w.known p.known c.requires.empty) in
    subst (λ (v : View). Trades c.args.w.now.holds (t ∷ []) [] v.holds) (sym (ap only (views_at last c.into_badge.ensures))) (gives-trades t c.args.w.now.holds c.requires.held)
