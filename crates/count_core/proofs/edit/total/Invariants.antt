-- What the loop of `total` keeps, or what grows less in its recursion.
use Rattle.std.proofs.Common.{◌≡◌, ◌+◌, ◌^◌, ◌<◌, drop}
use Rattle.node_forest.specs.Changes.{total}
use Rattle.count_core.proofs.edit.total.Given as goal

abbrev pub invariant-loop-tree : goal.invariant-loop-tree
invariant-loop-tree l = (l.sum + total (drop l.tree-index l.trees) ≡ total l.trees) × (l.sum < 2 ^ 63)
