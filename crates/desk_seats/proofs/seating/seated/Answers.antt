-- The workers that are left hold nothing and have room, and so do the passes.
use Rattle.std.proofs.Common.{◌≡◌, ◌∷◌, [], List, length, ap, subst, arith, length-append}
use Rattle.std.specs.Prelude.{All}
use Rattle.std.proofs.lemmas.List.Elements.{All-head, All-rest}
use Rattle.pool_rule.specs.Views.{View}
use Rattle.cordz_desk.specs.Tokens.{token_of}
use Rattle.desk_seats.specs.Fresh.{IsFresh}
use Rattle.desk_seats.proofs.NewSeats.{all_front, all_last, made_none, walks_not}
use Rattle.desk_seats.proofs.seating.seated.Goals as goal

pub invariant_of-push_reserved : goal.invariant_of-push_reserved
invariant_of-push_reserved g c =
    let inv = c.loop-worker.invariant in
    let rest = c.in-Some.ensures.steps in
    let fresh = all_last (λ p. IsFresh (token_of p)) _ _ c.in-Some-pop.pass c.in-Some-pop.ensures.items inv.fresh in
    record {
      few = made_none (token_of c.in-Some-pop.pass) fresh;
      small = omega arith;
      walking = walks_not (token_of c.in-Some-pop.pass) fresh;
      given = tt;
      idle = All-head (λ (w : View). length w.holds ≡ 0) c.in-Some.worker _ (subst (All (λ (w : View). length w.holds ≡ 0)) rest.0 inv.idle);
      walker = fresh.1;
    }

pub loop-worker-preserved : goal.loop-worker-preserved
loop-worker-preserved g c =
    let inv = c.loop-worker.invariant in
    let rest = c.in-Some.ensures.steps in
    let more = c.push_reserved.ensures.len in
    record {
      count = omega (arith, inv.count, more, length-append c.loop-worker.yielded (c.in-Some.worker ∷ []));
      room = omega (arith, inv.room, more, c.push_reserved.ensures.capacity, ap (λ (z : List View). length z) rest.0);
      idle = All-rest (λ (w : View). length w.holds ≡ 0) c.in-Some.worker _ _ rest.0 inv.idle;
      fresh = all_front (λ p. IsFresh (token_of p)) _ _ c.in-Some-pop.pass c.in-Some-pop.ensures.items inv.fresh;
    }
