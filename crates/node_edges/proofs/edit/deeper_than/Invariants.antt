-- What the loop of `deeper_than` keeps.
use Rattle.std.proofs.Common.{◌+◌, take}
use Rattle.node_edges.specs.Levels.{AreDeep}
use Rattle.node_edges.proofs.edit.deeper_than.Given as goal

abbrev pub invariant-loop-k : goal.invariant-loop-k
invariant-loop-k l = AreDeep (l.depth + 1) (take l.k l.changes)
