-- So many boxes were made, and none of them was called.
use Rattle.std.proofs.Common.{◌≡◌, ◌-◌, ◌^◌, ◌<◌, length, All}
use Rattle.cord_port.specs.Logs.{log_calls}
use Rattle.pool_tests.proofs.slots.boxes.Given as goal

abbrev pub invariant-loop-i : goal.invariant-loop-i
invariant-loop-i l = record {
  count : length l.boxes.items ≡ l.i;
  calls : All (λ b. log_calls b < 2 ^ 64 - 1) l.boxes.items;
}
