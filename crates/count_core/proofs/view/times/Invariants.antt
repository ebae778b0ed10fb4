-- What the loop of `times` keeps, or what grows less in its recursion.
use Rattle.std.proofs.Common.{◌≡◌, ◌+◌, ◌≤◌, drop}
use Rattle.node_forest.specs.Counts.{times}
use Rattle.count_core.proofs.view.times.Given as goal

abbrev pub invariant-loop-tree : goal.invariant-loop-tree
invariant-loop-tree l = (l.count + times l.number (drop l.tree-index l.trees) ≡ times l.number l.trees) × (l.count ≤ l.tree-index)
