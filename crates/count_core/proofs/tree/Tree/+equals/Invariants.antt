-- What the loop of `equals` keeps, or what grows less in its recursion.
use Rattle.std.proofs.Common.{◌≡◌, take}
use Rattle.count_core.proofs.tree.Tree.+equals.Given as goal

abbrev pub invariant-loop-i : goal.invariant-loop-i
invariant-loop-i l = take l.i l.child-items ≡ take l.i l.other-inside.children.items
