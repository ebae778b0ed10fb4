-- Each worker so far has a seat, and the others hold nothing and have room; the passes that are left have done nothing.
use Rattle.std.proofs.Common.{◌≡◌, ◌+◌, ◌≤◌, length, vec_len, vec_capacity}
use Rattle.std.specs.Prelude.{All}
use Rattle.std.specs.Vec.Iter.{into_iter_items}
use Rattle.pool_rule.specs.Views.{View}
use Rattle.cordz_desk.specs.Tokens.{token_of}
use Rattle.desk_seats.specs.Fresh.{IsFresh}
use Rattle.desk_seats.proofs.seating.seated.Given as goal

abbrev pub invariant-loop-worker : goal.invariant-loop-worker
invariant-loop-worker g l = record {
  count : vec_len l.seats ≡ length l.yielded;
  room : vec_len l.seats + length (into_iter_items l.worker-iterator) ≤ vec_capacity l.seats;
  idle : All (λ (w : View). length w.holds ≡ 0) (into_iter_items l.worker-iterator);
  fresh : All (λ c. IsFresh (token_of c)) l.passes.items;
}
