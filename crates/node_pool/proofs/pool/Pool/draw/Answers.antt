-- What the proof of `Pool::draw` needs beyond the search.
use Rattle.std.proofs.Common.{inr, refl, sym, ◌∙◌, arith}
use Rattle.pool_rule.specs.Views.{parting}
use Rattle.node_pool.proofs.Seats.{seated, said_as, split_at, views_at, token_at}
use Rattle.node_pool.proofs.Passing.{join_at, drawn_at, part_at, drawn_is, drawn_worker, roomy_with}
use Rattle.node_pool.proofs.OwnSlots.{slots_stay}
use Rattle.node_pool.proofs.pool.Pool.draw.Goals as goal

pub join_seat-requires : goal.join_seat-requires
join_seat-requires g c =
    let w = seated c.replace.ensures.value c.w.invariant.1 c.w.view_is c.into_seat-seat.ensures in
    let p = seated c.replace-2.ensures.value c.p.invariant c.p.view_is c.into_seat-other.ensures in
    let pool = c.args.self.now in
    (w.table ∙ sym pool.named, p.table ∙ sym pool.named, c.into_seat-other.ensures.3, omega (arith, pool.wide), join_at g.P.Naming.size g.P.Naming.limit _ _ _ _ _ _ _ w.is p.is w.known p.known)

pub split_seat-empty-requires : goal.split_seat-empty-requires
split_seat-empty-requires g c =
    let w = seated c.replace.ensures.value c.w.invariant.1 c.w.view_is c.into_seat-seat.ensures in
    let p = seated c.replace-2.ensures.value c.p.invariant c.p.view_is c.into_seat-other.ensures in
    let pool = c.args.self.now in
    let with = drawn_at g.P.Naming.size g.P.Naming.limit w p c.join_seat.ensures in
    (with.table ∙ sym pool.named, omega (arith, pool.wide), part_at g.P.Naming.size g.P.Naming.limit _ _ _ _ _ with.is w.known p.known c.requires.room)

pub invariant_of-w : goal.invariant_of-w
invariant_of-w g c =
    let w = seated c.replace.ensures.value c.w.invariant.1 c.w.view_is c.into_seat-seat.ensures in
    let p = seated c.replace-2.ensures.value c.p.invariant c.p.view_is c.into_seat-other.ensures in
    let n = g.P.Naming.size in
    let m = g.P.Naming.limit in
    let last = said_as (split_at (drawn_at n m w p c.join_seat.ensures) parting c.split_seat-empty.ensures) (drawn_is n m _ _ w.known p.known) in (
      c.w.invariant.0,
      token_at last c.into_badge.ensures (drawn_worker n m _ _ w.known p.known (roomy_with n m _ c.args.p.now w.known (inr c.requires.room))),
      slots_stay _ _ _ _ _ c.w.invariant.2 c.w.view_is (views_at last c.into_badge.ensures) refl refl,
    )
