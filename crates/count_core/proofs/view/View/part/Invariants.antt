-- What the loop of `part` keeps, or what grows less in its recursion.
use Rattle.std.proofs.Common.{◌≡◌, ◌++◌, drop}
use Rattle.count_core.specs.Views.{chosen}
use Rattle.count_core.proofs.view.View.part.Given as goal

abbrev pub invariant-loop-i : goal.invariant-loop-i
invariant-loop-i l = l.part ++ chosen l.wanted (drop l.i l.marks) (drop l.i l.tree-items) ≡ chosen l.wanted l.marks l.tree-items
