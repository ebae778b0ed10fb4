-- What the proof of `Pool::pass` needs beyond the search.
use Rattle.std.proofs.Common.{refl, sym, ◌∙◌, arith}
use Rattle.pool_rule.specs.Views.{undoing, counting, parting}
use Rattle.node_pool.proofs.Seats.{seated, at_of, said_as, told_at, split_at, views_at, token_at}
use Rattle.node_pool.proofs.Passing.{count_at, undo_at, refused_is, part_counted_at, made_is, counted_worker, uncounted_worker}
use Rattle.node_pool.proofs.OwnSlots.{slots_stay}
use Rattle.node_pool.proofs.pool.Pool.pass.Goals as goal

pub fetch_add-found-requires : goal.fetch_add-found-requires
fetch_add-found-requires g c =
    let w = seated c.replace.ensures.value c.w.invariant.1 c.w.view_is c.into_seat-seat.ensures in
    let pool = c.args.self.now in
    (w.table ∙ sym pool.named, omega (arith, pool.wide, pool.sized.0), count_at g.P.Naming.size g.P.Naming.limit _ _ _ _ _ _ w.is w.known (pool.sized.0 ∙ sym pool.sized.1))

pub fetch_sub-requires : goal.fetch_sub-requires
fetch_sub-requires g c =
    let w = seated c.replace.ensures.value c.w.invariant.1 c.w.view_is c.into_seat-seat.ensures in
    let after = told_at (at_of w) (counting c.fetch_add-found.result) c.fetch_add-found.ensures in
    let pool = c.args.self.now in
    let more = c.if-found-self.true in
    (after.table ∙ sym pool.named, omega (arith, pool.wide, pool.sized.0), undo_at g.P.Naming.size g.P.Naming.limit _ _ _ _ c.fetch_add-found.result _ _ after.is w.known (omega (arith, more, pool.limited)) (pool.sized.0 ∙ sym pool.sized.1))

pub invariant_of-w : goal.invariant_of-w
invariant_of-w g c =
    let w = seated c.replace.ensures.value c.w.invariant.1 c.w.view_is c.into_seat-seat.ensures in
    let n = g.P.Naming.size in
    let m = g.P.Naming.limit in
    let found = c.fetch_add-found.result in
    let after = told_at (at_of w) (counting found) c.fetch_add-found.ensures in
    let more = c.if-found-self.true in
    let last = said_as (told_at after undoing c.fetch_sub.ensures) (refused_is n m found _ w.known (omega (arith, more, c.args.self.now.limited))) in (
      c.w.invariant.0,
      token_at last c.into_badge.ensures (uncounted_worker n m _ (counted_worker n m found _ w.known)),
      slots_stay _ _ _ _ _ c.w.invariant.2 c.w.view_is (views_at last c.into_badge.ensures) refl refl,
    )

pub split_seat-made-requires : goal.split_seat-made-requires
split_seat-made-requires g c =
    let w = seated c.replace.ensures.value c.w.invariant.1 c.w.view_is c.into_seat-seat.ensures in
    let after = told_at (at_of w) (counting c.fetch_add-found.result) c.fetch_add-found.ensures in
    let pool = c.args.self.now in
    let less = c.if-found-self.false in
    (after.table ∙ sym pool.named, omega (arith, pool.wide), part_counted_at g.P.Naming.size g.P.Naming.limit _ _ c.fetch_add-found.result _ _ after.is w.known (omega (arith, less, pool.limited)))

pub invariant_of-w-2 : goal.invariant_of-w-2
invariant_of-w-2 g c =
    let w = seated c.replace.ensures.value c.w.invariant.1 c.w.view_is c.into_seat-seat.ensures in
    let n = g.P.Naming.size in
    let m = g.P.Naming.limit in
    let found = c.fetch_add-found.result in
    let after = told_at (at_of w) (counting found) c.fetch_add-found.ensures in
    let less = c.if-found-self.false in
    let last = said_as (split_at after parting c.split_seat-made.ensures) (made_is n m found _ w.known (omega (arith, less, c.args.self.now.limited))) in (
      c.w.invariant.0,
      token_at last c.into_badge-2.ensures (counted_worker n m found _ w.known),
      slots_stay _ _ _ _ _ c.w.invariant.2 c.w.view_is (views_at last c.into_badge-2.ensures) refl refl,
    )
