-- The bytes so far are what the source gave, and no count of faults rose.
use Rattle.std.proofs.Common.{◌≡◌, ◌≤◌, ◌+◌, ◌-◌, length}
use Rattle.cord_port.specs.Texts.{Gave}
use Rattle.cord_port.proofs.reading.read_all.Given as goal

abbrev pub invariant-loop-bytes : goal.invariant-loop-bytes
invariant-loop-bytes g l = record {
  gave : Gave (g.S.Source.left l.initial.source) (g.S.Source.left l.source) (g.S.Source.given l.initial.source) (g.S.Source.given l.source) l.bytes.items;
  within : length l.bytes.items ≤ l.limit + 1;
  faults : g.S.Source.faults l.source ≡ g.S.Source.faults l.initial.source;
}

abbrev pub decreases-loop-bytes : goal.decreases-loop-bytes
decreases-loop-bytes g l = (l.limit + 1) - length l.bytes.items
