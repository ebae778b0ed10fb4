-- What the loop of `copied_without` keeps, or what grows less in its recursion.
use Rattle.std.proofs.Common.{◌≡◌, take}
use Rattle.count_core.proofs.view.View.copied_without.Given as goal

abbrev pub invariant-loop-tree : goal.invariant-loop-tree
invariant-loop-tree l = l.holds.items ≡ take l.tree-index l.tree-items
