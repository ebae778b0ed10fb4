-- What the loop of `highest` keeps.
use Rattle.std.proofs.Common.{◌≤◌}
use Rattle.node_edges.proofs.tests.highest.Given as goal

abbrev pub invariant-loop-height : goal.invariant-loop-height
invariant-loop-height l = l.tree.0.length ≤ 100
