-- The workers that are left hold nothing, and have room.
use Rattle.std.proofs.Common.{◌≡◌, ◌∷◌, [], List, length, ap, arith, length-append}
use Rattle.std.proofs.lemmas.List.Elements.{All-rest}
use Rattle.pool_rule.specs.Views.{View}
use Rattle.pool_tests.proofs.threads.seated.Goals as goal

pub loop-worker-preserved : goal.loop-worker-preserved
loop-worker-preserved g c =
    let inv = c.loop-worker.invariant in
    let rest = c.in-Some.ensures.steps in
    let more = c.push_reserved.ensures.len in
    record {
      count = omega (arith, inv.count, more, length-append c.loop-worker.yielded (c.in-Some.worker ∷ []));
      room = omega (arith, inv.room, more, c.push_reserved.ensures.capacity, ap (λ (z : List View). length z) rest.0);
      idle = All-rest (λ (w : View). length w.holds ≡ 0) c.in-Some.worker _ _ rest.0 inv.idle;
    }
