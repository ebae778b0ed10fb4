-- What the loop of `copied` keeps, or what grows less in its recursion.
use Rattle.std.proofs.Common.{◌≡◌, take}
use Rattle.count_core.proofs.tree.Tree.+copied.Given as goal

abbrev pub invariant-loop-child : goal.invariant-loop-child
invariant-loop-child l = l.children.items ≡ take l.child-index l.child-items
