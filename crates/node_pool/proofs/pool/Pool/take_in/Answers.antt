-- What the proof of `Pool::take_in` needs beyond the search.
use Rattle.std.proofs.Common.{refl, sym, ◌∙◌, arith}
use Rattle.pool_rule.specs.Views.{ending}
use Rattle.node_pool.proofs.Seats.{seated, seated_moved, said_as, told_at, views_at, token_at}
use Rattle.node_pool.proofs.Passing.{join_at, drawn_at, drawn_worker, roomy_with, uncounted_worker}
use Rattle.node_pool.proofs.OwnSlots.{slots_stay}
use Rattle.node_pool.proofs.PassTrees.{end_tree_at, end_tree_is}
use Rattle.node_pool.proofs.pool.Pool.take_in.Goals as goal

pub join_seat-requires : goal.join_seat-requires
join_seat-requires g c =
    let w = seated c.replace.ensures.value c.w.invariant.1 c.w.view_is c.into_seat-seat.ensures in
    let p = seated_moved c.p.inside.badge c.p.invariant c.p.view_is c.into_seat.ensures in
    let pool = c.args.self.now in
    (w.table ∙ sym pool.named, p.table ∙ sym pool.named, c.into_seat.ensures.3, omega (arith, pool.wide), join_at g.P.Naming.size g.P.Naming.limit _ _ _ _ _ _ _ w.is p.is w.known p.known)

pub fetch_sub-requires : goal.fetch_sub-requires
fetch_sub-requires g c =
    let w = seated c.replace.ensures.value c.w.invariant.1 c.w.view_is c.into_seat-seat.ensures in
    let p = seated_moved c.p.inside.badge c.p.invariant c.p.view_is c.into_seat.ensures in
    let n = g.P.Naming.size in
    let m = g.P.Naming.limit in
    let pool = c.args.self.now in
    let with = drawn_at n m w p c.join_seat.ensures in
    (with.table ∙ sym pool.named, omega (arith, pool.wide, pool.sized.0), end_tree_at n m _ _ _ _ _ _ _ with.is w.known p.known (roomy_with n m _ c.args.p w.known c.requires.room) (pool.sized.0 ∙ sym pool.sized.1))

pub invariant_of-w : goal.invariant_of-w
invariant_of-w g c =
    let w = seated c.replace.ensures.value c.w.invariant.1 c.w.view_is c.into_seat-seat.ensures in
    let p = seated_moved c.p.inside.badge c.p.invariant c.p.view_is c.into_seat.ensures in
    let n = g.P.Naming.size in
    let m = g.P.Naming.limit in
    let last = said_as (told_at (drawn_at n m w p c.join_seat.ensures) ending c.fetch_sub.ensures) (end_tree_is n m _ _ w.known p.known) in (
      c.w.invariant.0,
      token_at last c.into_badge.ensures (uncounted_worker n m _ (drawn_worker n m _ _ w.known p.known (roomy_with n m _ c.args.p w.known c.requires.room))),
      slots_stay _ _ _ _ _ c.w.invariant.2 c.w.view_is (views_at last c.into_badge.ensures) refl refl,
    )
