-- What the loop of `next_from` keeps, or what grows less in its recursion.
use Rattle.std.proofs.Common.{◌∷◌, take}
use Rattle.node_forest.specs.Forest.{nodes_of}
use Rattle.count_core.specs.Search.{IsNext}
use Rattle.count_core.proofs.tree.Tree.+next_from.Given as goal

abbrev pub invariant-loop-child : goal.invariant-loop-child
invariant-loop-child l = IsNext l.from (l.self ∷ nodes_of (take l.child-index l.child-items)) l.next
