-- The slots that are left are to be cleared, and none of them stands twice.
use Rattle.std.proofs.Common.{◌≡◌, ◌≤◌, ◌^◌, ◌+◌, false, None, drop}
use Rattle.cordz_core.specs.Queue.{Apart}
use Rattle.cordz_desk.specs.Tokens.{token_of}
use Rattle.desk_seats.specs.Cleared.{AllCleared}
use Rattle.desk_seats.proofs.seats.Seat.collect.Given as goal

abbrev pub invariant-loop-slot : goal.invariant-loop-slot
invariant-loop-slot g l = record {
  few : l.self.made ≤ 2 ^ 33 + 1 + l.slot-index;
  walks : l.self.walks ≡ false;
  at : l.self.at ≡ None;
  cleared : AllCleared (token_of l.self.pass).claims (drop l.slot-index l.gone);
  once : Apart (drop l.slot-index l.gone);
}
