-- What the proof of `Pool::close` needs beyond the search.
use Rattle.std.proofs.Common.{rules, ◌≡◌, ◌≤◌, ◌++◌, ◌∷◌, [], ℕ, List, map, ap, sym, ◌∙◌, subst, arith}
use Rattle.std.proofs.lemmas.Iterator.Adapters.{YieldsList-from_vec}
use Rattle.std.proofs.lemmas.Iterator.Consumers.{YieldsList-end}
use Rattle.pool_rule.specs.Pools.{Handed, made_by, ended_by}
use Rattle.pool_rule.specs.Views.{View}
use Rattle.node_pool.specs.Boxes.{handed_of}
use Rattle.node_pool.specs.Closes.{IsWhole, AreReturned, numbers_in}
use Rattle.node_pool.proofs.Returning.{handed_in}
use Rattle.node_pool.proofs.Seats.{seated_moved}
use Rattle.node_pool.proofs.Closing.{IsMerged, merged_more, map-id, merged_whole, merged_counts, merged_taken, merge_at, merged_nothing, merged_boxes, merged_held, merged_least}
use Rattle.node_pool.proofs.pool.Pool.close.Goals as goal

pub join_seat-requires : goal.join_seat-requires
join_seat-requires g c =
    let pool = c.args.self in
    let inv = c.loop-worker.invariant in
    let w = seated_moved c.worker.inside.badge c.worker.invariant.1 c.worker.view_is c.into_seat.ensures in
    (inv.table, w.table ∙ sym pool.named, c.into_seat.ensures.3, omega (arith, pool.wide), merge_at _ _ _ g.P.Naming.size g.P.Naming.limit _ _ _ _ _ inv.merged w.is w.known)

pub loop-worker-preserved : goal.loop-worker-preserved
loop-worker-preserved g c =
    let inv = c.loop-worker.invariant in
    let w = seated_moved c.worker.inside.badge c.worker.invariant.1 c.worker.view_is c.into_seat.ensures in
    let j = c.join_seat.ensures in
    record {
      table = j.0 ∙ inv.table;
      carried = ap (λ x. x.1) j.2 ∙ inv.carried;
      merged = subst (IsMerged c.into_seat-seat.result.me.0 (c.loop-worker.yielded ++ c.in-Some-worker.worker ∷ [])) (ap (λ x. x.0) (sym j.2))
          (merged_more g.P.Naming.size g.P.Naming.limit c.into_seat-seat.result.me.0 c.loop-worker.yielded c.loop-worker.seat.me.0 c.into_seat.result.me.0 c.in-Some-worker.worker inv.merged w.is w.known);
    }

pub returns : goal.returns
returns g c =
    let pool = c.args.self in
    let inv = c.loop-worker.invariant in
    let first = seated_moved c.first.inside.badge c.first.invariant.1 c.first.view_is c.into_seat-seat.ensures in
    let items = YieldsList-from_vec {s = c.into_iter-worker-iterator.result} c.pop.new.self.items (search rules) (search rules) in
    let whole : c.pop.new.self.items ≡ c.loop-worker.yielded = sym (sym (map-id c.loop-worker.yielded) ∙ (YieldsList-end items c.loop-worker.yielded c.loop-worker.worker-iterator c.loop-worker.yielded_by c.next.result c.next.new.self c.in-None.is c.next.ensures.steps).0) in
    let all : c.args.workers.items ≡ c.loop-worker.yielded ++ c.in-Some.first ∷ [] = c.in-Some.ensures.items ∙ ap (λ (l : List View). l ++ c.in-Some.first ∷ []) whole in
    let parts = all ∙ (λ q. c.loop-worker.yielded ++ sym first.is q ∷ []) in
    let known = c.emptied-in_use.ensures.known in
    let back : List Handed = map (handed_in g.B.Releaser) c.emptied-in_use.result.1.items in
    record {
      idle = λ idle. c.emptied-in_use.ensures.idle (subst (λ k. IsWhole k c.loop-worker.seat.me.0) (sym pool.workers)
          (merged_whole g.P.Naming.workers c.into_seat-seat.result.me.0 c.loop-worker.yielded c.args.workers.items c.loop-worker.seat.me.0 inv.merged parts c.requires.all idle));
      counts = merged_counts c.into_seat-seat.result.me.0 c.loop-worker.yielded c.args.workers.items c.loop-worker.seat.me.0 inv.merged parts known;
      taken = merged_taken c.into_seat-seat.result.me.0 c.loop-worker.yielded c.args.workers.items c.loop-worker.seat.me.0 inv.merged parts known;
      held = λ ended. merged_held c.into_seat-seat.result.me.0 c.loop-worker.yielded c.args.workers.items c.loop-worker.seat.me.0 inv.merged parts g.P.Naming.size c.emptied-in_use.result.0
          (subst (λ (size : ℕ). c.loop-worker.seat.me.0.passes ≡ 0 → made_by c.loop-worker.seat.me.0 ≡ ended_by c.loop-worker.seat.me.0 → c.emptied-in_use.result.0 ≡ numbers_in size c.loop-worker.seat.me.0.holds) pool.sized.0 c.emptied-in_use.ensures.held) ended;
      least = merged_least c.into_seat-seat.result.me.0 c.loop-worker.yielded c.args.workers.items c.loop-worker.seat.me.0 inv.merged parts g.P.Naming.size c.emptied-in_use.result.0
          (subst (λ (size : ℕ). numbers_in size c.loop-worker.seat.me.0.holds ≤ c.emptied-in_use.result.0) pool.sized.0 c.emptied-in_use.ensures.least);
      most = omega (arith, c.emptied-in_use.ensures.most, pool.sized.0);
      nothing = λ z. merged_nothing c.into_seat-seat.result.me.0 c.loop-worker.yielded c.args.workers.items c.loop-worker.seat.me.0 inv.merged parts (c.emptied-in_use.ensures.nothing z);
      boxes = subst (λ (z : List Handed). AreReturned z c.args.workers.items c.emptied-in_use.result.0 back) pool.boxed
          (merged_boxes c.into_seat-seat.result.me.0 c.loop-worker.yielded c.args.workers.items c.loop-worker.seat.me.0 inv.merged parts (map handed_of pool.table.shared.key.boxes.items) back c.emptied-in_use.result.0 c.emptied-in_use.ensures.boxes);
    }
