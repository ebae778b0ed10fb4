-- Each call goes one level down, and what the loop over the groups keeps.
use Rattle.std.proofs.Common.{◌≡◌, ◌+◌, ◌*◌, ◌≤◌, length, vec_capacity}
use Rattle.pool_rule.specs.Trades.{Trades}
use Rattle.btree_edit.specs.Trees.{IsPartway}
use Rattle.btree_node.specs.Made.{GainedNodes, nodes_of_all}
use Rattle.btree_edit.proofs.packing.+packing.Given as goal

abbrev pub decreases-packed : goal.decreases-packed
decreases-packed g l = 2 * l.level

abbrev pub decreases-gathered : goal.decreases-gathered
decreases-gathered g l = 2 * l.level + 1

abbrev pub invariant-gathered-loop-rest : goal.invariant-gathered-loop-rest
invariant-gathered-loop-rest g l = record {
  part : IsPartway l.side l.level l.fn.edges.items l.edges.items l.bytes l.rest;
  traded : Trades l.fn.w.holds l.fn.edges.items l.edges.items l.w.holds;
  took : length l.w.taken + nodes_of_all l.fn.edges.items ≡ length l.fn.w.taken + nodes_of_all l.edges.items;
  gained : GainedNodes l.fn.w l.w;
  capacity : 6 ≤ vec_capacity l.edges;
}

abbrev pub decreases-gathered-loop-rest : goal.decreases-gathered-loop-rest
decreases-gathered-loop-rest g l = length l.rest
