-- So many flats are held.
use Rattle.std.proofs.Common.{◌≡◌, ◌*◌, ◌≤◌, [], length, sum_by, vec_capacity}
use Rattle.std.specs.List.{All}
use Rattle.node_edges.specs.Trees.{IsTreeAt}
use Rattle.pool_rule.specs.Trades.{Trades}
use Rattle.chunk_reader.specs.Places.{long}
use Rattle.btree_cut.proofs.tests.leaf.Given as goal

abbrev pub invariant-loop-i : goal.invariant-loop-i
invariant-loop-i g l = record {
  traded : Trades l.fn.w.holds [] l.flats.items l.w.holds;
  trees : All (IsTreeAt 0) l.flats.items;
  long_so_far : sum_by long l.flats.items ≡ 6 * l.i;
  count : length l.flats.items ≡ l.i;
  capacity : 6 ≤ vec_capacity l.flats;
}
