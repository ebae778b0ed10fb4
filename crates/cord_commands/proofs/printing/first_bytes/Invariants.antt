-- The bytes in front of the place.
use Rattle.std.proofs.Common.{◌≡◌, ◌-◌, ◌≤◌, length, take}
use Rattle.cord_commands.proofs.printing.first_bytes.Given as goal

abbrev pub invariant-loop-rest : goal.invariant-loop-rest
invariant-loop-rest g l = record {
  same : l.rest.bytes ≡ l.cord.bytes;
  items : l.bytes.items ≡ take l.rest.at l.rest.bytes;
  count : length l.bytes.items ≡ l.rest.at;
  within : l.rest.at ≤ l.most;
}

abbrev pub decreases-loop-rest : goal.decreases-loop-rest
decreases-loop-rest g l = l.most - length l.bytes.items
