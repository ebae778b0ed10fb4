-- What the loop of `direct` keeps, or what grows less in its recursion.
use Rattle.std.proofs.Common.{◌≡◌, drop}
use Rattle.node_forest.specs.Counts.{first}
use Rattle.count_core.proofs.view.View.direct.Given as goal

abbrev pub invariant-loop-tree : goal.invariant-loop-tree
invariant-loop-tree l = first l.number l.tree-items ≡ first l.number (drop l.tree-index l.tree-items)
