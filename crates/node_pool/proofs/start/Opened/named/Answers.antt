-- What the proof of `Opened::named` needs beyond the search.
use Rattle.std.proofs.Common.{◌≡◌, ◌+◌, ◌-◌, [], ◌∷◌, ap, sym, ◌∙◌, arith}
use Rattle.pool_rule.specs.Views.{View, narrower, part_of}
use Rattle.node_pool.specs.Starts.{slot_count, rest_after, worker_at}
use Rattle.node_pool.specs.Tokens.{only}
use Rattle.node_pool.proofs.Hiring.{hire_at, hired_left, hired_more, hired_view, last_view}
use Rattle.node_pool.proofs.OwnSlots.{hired_slots, last_slots}
use Rattle.node_pool.proofs.Returning.{untouched}
use Rattle.node_pool.proofs.Seats.{seat_view, token_of}
use Rattle.node_pool.proofs.start.Opened.named.Goals as goal

pub split_seat-part-requires : goal.split_seat-part-requires
split_seat-part-requires g c =
    let o = c.args.self in
    let inv = c.loop-i.invariant in
    let view = ap (λ x. x.0) inv.view in
    (inv.table, omega (arith, o.wide), hire_at o.numbers o.passes o.workers (slot_count o.workers o.table.shared.table_id.slots) _ _ c.loop-i.i _ view (omega (arith, c.loop-i-test.true, o.small)) o.small.4)

pub loop-i-preserved : goal.loop-i-preserved
loop-i-preserved g c =
    let o = c.args.self in
    let inv = c.loop-i.invariant in
    let s = c.split_seat-part.ensures in
    let p = c.push_reserved.ensures in
    let slots = slot_count o.workers o.table.shared.table_id.slots in
    let view = ap (λ x. x.0) inv.view in
    record {
      table = s.0 ∙ inv.table;
      view = s.2 ∙ ((λ q. (narrower 256 16 (view q), (inv.view q).1)) ∙ (λ q. (hired_left o.numbers o.passes o.workers slots c.loop-i.i q, [])));
      hired = hired_more o.numbers o.passes o.workers slots c.loop-i.i _ _ _ inv.hired (ap only c.into_badge.ensures.2 ∙ (ap (λ x. x.0) s.4 ∙ ap (part_of 256 16) view)) p.items;
      count = omega (arith, inv.count, ap (λ l. Rattle.std.proofs.Common.length l) p.items);
      room = omega (arith, inv.room, p.capacity);
    }

pub returns-in_default-clause-refused : goal.returns-in_default-clause-refused
returns-in_default-clause-refused g c =
    let first = seat_view _ _ _ c.into_seat-seat.ensures.2 (ap only c.args.self.first) in
    untouched _ _ _ _ (ap (λ (v : View). v.used) first) c.emptied-releasers.ensures.boxes ∙ c.requires.boxes

pub invariant_of-push_reserved : goal.invariant_of-push_reserved
invariant_of-push_reserved g c =
    let o = c.args.self in
    let inv = c.loop-i.invariant in
    let s = c.split_seat-part.ensures in
    let b = c.into_badge.ensures in
    let r = c.requires in
    let n = g.P.Naming.size in
    let m = g.P.Naming.limit in
    let slots = c.min-slots.result in
    let few : slots ≡ slot_count o.workers o.table.shared.table_id.slots = omega (arith, c.min-slots.ensures, c.slot_count.ensures) in
    let view : c.split_seat-part.result.me.0 ≡ worker_at n m slots c.loop-i.i = ap (λ x. x.0) s.4 ∙ (ap (λ x. part_of 256 16 x.0) inv.view ∙ (λ q. worker_at (r.numbers q) (r.passes q) (sym few q) c.loop-i.i)) in
    let views = b.2 ∙ (λ q. view q ∷ []) in (
      omega (arith, c.begin.ensures, r.numbers),
      token_of _ _ _ _ (worker_at n m slots c.loop-i.i) (b.0 ∙ (s.3 ∙ (inv.table ∙ r.table))) views (hired_view n m o.workers slots c.loop-i.i (omega (arith, o.small, r.passes))),
      hired_slots n m slots c.loop-i.i c.of_worker.result c.into_badge.result.views c.of_worker.ensures.first c.of_worker.ensures.unused c.of_worker.ensures.end (ap only views),
    )

pub invariant_of-push_reserved-2 : goal.invariant_of-push_reserved-2
invariant_of-push_reserved-2 g c =
    let o = c.args.self in
    let inv = c.loop-i.invariant in
    let b = c.into_badge-2.ensures in
    let r = c.requires in
    let n = g.P.Naming.size in
    let m = g.P.Naming.limit in
    let slots = c.min-slots.result in
    let few : slots ≡ slot_count o.workers o.table.shared.table_id.slots = omega (arith, c.min-slots.ensures, c.slot_count.ensures) in
    let last : c.loop-i.i ≡ o.workers - 1 = omega (arith, c.loop-i-test.false, c.loop-i.auto.i-end) in
    let view : c.loop-i.seat.me.0 ≡ rest_after n m o.workers slots (o.workers - 1) = ap (λ x. x.0) inv.view ∙ (λ q. rest_after (r.numbers q) (r.passes q) o.workers (sym few q) (last q)) in
    let views = b.2 ∙ (λ q. view q ∷ []) in (
      omega (arith, c.begin-2.ensures, r.numbers),
      token_of _ _ _ _ (rest_after n m o.workers slots (o.workers - 1)) (b.0 ∙ (inv.table ∙ r.table)) views (last_view n m o.workers slots (o.workers - 1) (omega (arith, o.small, r.passes)) (omega (arith, o.small)) o.small.4),
      last_slots n m o.workers slots (o.workers - 1) c.of_worker-2.result c.into_badge-2.result.views (omega (arith, few, o.small)) c.of_worker-2.ensures.first c.of_worker-2.ensures.unused c.of_worker-2.ensures.end (ap only views),
    )
