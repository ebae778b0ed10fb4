-- What came and what is left are no more than all.
use Rattle.std.proofs.Common.{◌+◌, ◌≤◌, length}
use Rattle.script_reader.specs.Fed.{fed_length}
use Rattle.script_reader.proofs.tests.fed_in_pieces.Given as goal

abbrev pub invariant-loop-left : goal.invariant-loop-left
invariant-loop-left l = fed_length l.feed + length l.left ≤ 16777216

abbrev pub decreases-loop-left : goal.decreases-loop-left
decreases-loop-left l = length l.left
