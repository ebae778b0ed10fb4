-- So many bytes were copied.
use Rattle.std.proofs.Common.{◌≡◌, ◌+◌, ◌-◌, ◌≤◌, length, take, drop}
use Rattle.cord_query.proofs.border.copy_from.Given as goal

abbrev pub invariant-loop-filled : goal.invariant-loop-filled
invariant-loop-filled l = record {
  within : l.filled ≤ l.most;
  moved : l.chunks ≡ record l.initial.chunks { at = l.initial.chunks.at + l.filled };
  fits : l.filled ≤ length (drop l.initial.chunks.at l.initial.chunks.bytes);
  copied : take l.filled l.room ≡ take l.filled (drop l.initial.chunks.at l.initial.chunks.bytes);
}

abbrev pub decreases-loop-filled : goal.decreases-loop-filled
decreases-loop-filled l = l.most - l.filled
