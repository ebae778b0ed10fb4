-- So many, and none was called.
use Rattle.std.proofs.Common.{◌≡◌, length, All}
use Rattle.cord_sessions.proofs.boxes.new_boxes.Given as goal

abbrev pub invariant-loop-i : goal.invariant-loop-i
invariant-loop-i g l = record {
  count : length l.boxes.items ≡ l.i;
  new : All (λ b. g.B.Releaser.calls_of b ≡ 0) l.boxes.items;
}
