-- The nodes so far were found lone.
use Rattle.std.proofs.Common.{length, ◌+◌, ◌-◌, ◌≡◌, ◌≤◌}
use Rattle.btree_node.specs.Lone.{found_lone_to}
use Rattle.btree_node.proofs.lone.lone_depth.Given as goal

abbrev pub invariant-loop-depth : goal.invariant-loop-depth
invariant-loop-depth g l = record {
  low : l.depth ≤ length l.path + 1;
  found : l.w ≡ found_lone_to l.depth l.fn.root l.fn.path l.fn.w;
}

abbrev pub decreases-loop-depth : goal.decreases-loop-depth
decreases-loop-depth g l = length l.path + 1 - l.depth
