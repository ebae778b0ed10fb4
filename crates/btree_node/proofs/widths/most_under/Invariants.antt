-- The product so far.
use Rattle.std.proofs.Common.{◌≡◌}
use Rattle.tree_shapes.specs.Room.{most_under}
use Rattle.btree_node.proofs.widths.most_under.Given as goal

abbrev pub invariant-loop : goal.invariant-loop
invariant-loop l = l.most ≡ most_under l.counter
