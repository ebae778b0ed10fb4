-- What the loop of `place_of` keeps, or what grows less in its recursion.
use Rattle.std.proofs.Common.{◌≡◌, ◌++◌, take, drop}
use Rattle.node_forest.specs.Counts.{first}
use Rattle.count_core.specs.Views.{without}
use Rattle.count_core.proofs.view.View.place_of.Given as goal

abbrev pub invariant-loop-i : goal.invariant-loop-i
invariant-loop-i l =
    (first l.number l.tree-items ≡ first l.number (drop l.i l.tree-items))
    × (without l.number l.tree-items ≡ take l.i l.tree-items ++ without l.number (drop l.i l.tree-items))
