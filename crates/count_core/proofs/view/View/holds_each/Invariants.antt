-- What the loop of `holds_each` keeps, or what grows less in its recursion.
use Rattle.std.proofs.Common.{take}
use Rattle.node_forest.specs.Label.{Node}
use Rattle.node_forest.specs.Members.{In}
use Rattle.count_core.specs.Views.{IsHeld}
use Rattle.count_core.proofs.view.View.holds_each.Given as goal

abbrev pub invariant-loop-tree : goal.invariant-loop-tree
invariant-loop-tree l = (c : Node) → In c (take l.tree-index l.trees) → IsHeld l.trees l.self-inside.holds.items c
