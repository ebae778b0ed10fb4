-- So many of the edges are copied.
use Rattle.std.proofs.Common.{◌≡◌, ◌≤◌, ◌+◌, ◌++◌, length, take}
use Rattle.std.specs.Prelude.{vec_capacity}
use Rattle.btree_node.proofs.branches.appended.Given as goal

abbrev pub invariant-loop-edge : goal.invariant-loop-edge
invariant-loop-edge l = record {
  copied : l.all.items ≡ take l.edge-index l.first;
  room : length l.first + length l.second ≤ vec_capacity l.all;
}

abbrev pub invariant-loop-edge-2 : goal.invariant-loop-edge-2
invariant-loop-edge-2 l = record {
  copied : l.all.items ≡ l.first ++ take l.edge-index l.second;
  room : length l.first + length l.second ≤ vec_capacity l.all;
}
