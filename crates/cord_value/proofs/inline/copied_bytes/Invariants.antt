-- How many bytes were copied, and how many are left to copy.
use Rattle.std.proofs.Common.{◌≡◌, ◌+◌, ◌-◌, ◌≤◌, length, take, drop}
use Rattle.cord_value.proofs.inline.copied_bytes.Given as goal

abbrev pub invariant-loop-reading : goal.invariant-loop-reading
invariant-loop-reading l =
    (l.copy.items ≡ take (length l.copy.items) (drop l.initial.reading.at l.initial.reading.bytes))
    × (l.reading.at ≡ l.initial.reading.at + length l.copy.items)
    × (l.reading.bytes ≡ l.initial.reading.bytes)
    × (length l.copy.items ≤ l.n)

abbrev pub decreases-loop-reading : goal.decreases-loop-reading
decreases-loop-reading l = l.n - length l.copy.items
